-- What a tray in memory is, and what its calls do.
use Rattle.std.specs.Option.{ForSome}
use Rattle.std.specs.Prelude.{◌≡◌, ℕ, ◌+◌, ◌-◌, ◌<◌, ◌≤◌, true, not, ◌&&◌, min, List, [], length}
use Rattle.std.specs.Prelude.{Option, Some, None, is_some, is_ok, Result, IfOk, OnOk, OnErr}
use Rattle.outside.specs.declared.mem_file.MemFile.{MemFile}
use Rattle.outside.specs.Counts.{one_more, is_listed}
use Rattle.outside.specs.MemFiles.{place_of, file_at, bytes_at, left_at, fails_at, end_before}
use Rattle.outside.specs.Tray.{TrayState}

pub record MemTrayState : Type 0 where
  pub files : List MemFile
  -- the most bytes that one read gives
  pub grain : ℕ
  -- the numbers of the calls that fail
  pub fails : List ℕ
  -- how many calls were made
  pub calls : ℕ
  -- the place of the file that is begun
  pub place : Option ℕ
  -- how many of its bytes were taken
  pub taken : ℕ
  -- the names handed to `begin`, while there was memory for them
  pub asked : Option (List (List ℕ))
  pub faults : ℕ

-- what it means as a tray: it tells all
abbrev pub tray_of : MemTrayState → TrayState
tray_of m = record {
  tells = true;
  file = λ name. bytes_at m.files (place_of m.files name);
  begun = is_some m.place;
  left = left_at m.files m.place m.taken;
  asked = m.asked;
  faults = m.faults;
}

-- these files, of which none is begun, and no call was made
abbrev pub fresh_tray : List MemFile → ℕ → List ℕ → MemTrayState
fresh_tray files grain
    fails = record {
      files = files;
      grain = grain;
      fails = fails;
      calls = 0;
      place = None;
      taken = 0;
      asked = Some [];
      faults = 0;
    }

-- where a read of the file at that place has to end
abbrev pub end_at : List MemFile → Option ℕ → ℕ → ℕ
end_at files None taken = taken
end_at files (Some place) taken =
    let file = file_at files place in end_before file.fails_at (length file.bytes) taken

-- how many bytes the next read gives to a buffer of that length
abbrev pub most_given : MemTrayState → ℕ → ℕ
most_given m workspace = min (min m.grain workspace) (end_at m.files m.place m.taken - m.taken)

-- A call counts, and it counts as a fault exactly where it fails.
pub record CountsTray {T E : Type 0} (before after : MemTrayState)
    (result : Result T E) : Type 0 where
  pub files : after.files ≡ before.files
  pub grain : after.grain ≡ before.grain
  pub fails : after.fails ≡ before.fails
  pub calls : after.calls ≡ one_more before.calls
  pub well : OnOk result (after.faults ≡ before.faults)
  pub fault : OnErr result (after.faults ≡ one_more before.faults)

-- `begin` does its work exactly where its number isn't listed and there is a file of that name.
pub record BeginsMem {T E : Type 0} (name : List ℕ) (before after : MemTrayState)
    (result : Result T E) : Type 0 where
  pub counts : CountsTray before after result
  pub exact : is_ok result
      ≡ (not (is_listed before.fails before.calls) && is_some (place_of before.files name))
  pub place : OnOk result (after.place ≡ place_of before.files name)
  pub taken : OnOk result (after.taken ≡ 0)

-- `read` does its work exactly where its number isn't listed and it doesn't begin where the file
-- fails. It gives as many bytes as the buffer, the grain and the file allow.
pub record ReadsMem {E : Type 0} (before after : MemTrayState) (result : Result ℕ E)
    (buf : List ℕ) : Type 0 where
  pub counts : CountsTray before after result
  pub exact : is_ok result
      ≡ (not (is_listed before.fails before.calls)
      && not (fails_at before.files before.place before.taken))
  pub place : after.place ≡ before.place
  pub taken : IfOk result (λ n. after.taken ≡ before.taken + n)
  pub kept : OnErr result (after.taken ≡ before.taken)
  pub count : IfOk result (λ n. n ≡ most_given before (length buf))

-- There is room for the place that is begun, and no more bytes were taken than it has.
pub record IsTrayInside (files : List MemFile) (grain : ℕ) (place : Option ℕ)
    (taken : ℕ) : Type 0 where
  pub some : 0 < grain
  pub there : ForSome place (λ k. k < length files)
  pub within : ForSome place (λ k. taken ≤ length (file_at files k).bytes)
