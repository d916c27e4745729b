-- Files that lie in memory.
use Rattle.std.specs.Prelude.{◌≢◌, ℕ, Bool, false, ◌==◌, ◌&&◌, nat_lt, if◌then◌else◌, List, []}
use Rattle.std.specs.Prelude.{drop, Option, Some, None, slice_index_or, AllPairs}
use Rattle.std.specs.List.{position}
use Rattle.std.specs.Str.{bytes_eq}
use Rattle.outside.specs.declared.mem_file.MemFile.{MemFile}

-- no two files have one name
abbrev pub HaveDistinctNames : List MemFile → Type 0
HaveDistinctNames files = AllPairs (λ (f : MemFile) (g : MemFile). f.name ≢ g.name) files

-- the place of the file of that name
abbrev pub place_of : List MemFile → List ℕ → Option ℕ
place_of files name = position (λ (f : MemFile). bytes_eq f.name name) files

-- stands where there is no file
abbrev pub no_file : MemFile
no_file = record { name = []; bytes = []; fails_at = None }

abbrev pub file_at : List MemFile → ℕ → MemFile
file_at files place = slice_index_or files place no_file

abbrev pub bytes_at : List MemFile → Option ℕ → Option (List ℕ)
bytes_at files None = None
bytes_at files (Some place) = Some (file_at files place).bytes

-- what is left of the file at that place, of which `taken` bytes were read
abbrev pub left_at : List MemFile → Option ℕ → ℕ → List ℕ
left_at files None taken = []
left_at files (Some place) taken = drop taken (file_at files place).bytes

-- whether a read that begins there is the one that fails
abbrev pub is_at : Option ℕ → ℕ → Bool
is_at None taken = false
is_at (Some fails_at) taken = fails_at == taken

-- whether a read of the file at that place, of which `taken` bytes were read, has to fail
abbrev pub fails_at : List MemFile → Option ℕ → ℕ → Bool
fails_at files None taken = false
fails_at files (Some place) taken = is_at (file_at files place).fails_at taken

-- where a read has to end, in a file of length `len` of which `taken` bytes were read
abbrev pub end_before : Option ℕ → ℕ → ℕ → ℕ
end_before None len taken = len
end_before (Some error) len taken = if nat_lt taken error && nat_lt error len then error else len
