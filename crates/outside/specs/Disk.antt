-- What the devices of a real disk mean: nothing is known of what they hold.
use Rattle.std.specs.Prelude.{ℕ, Bool, false, [], None}
use Rattle.outside.specs.Tray.{TrayState}
use Rattle.outside.specs.Rack.{RackState}

-- whether a file is in hand, and how many faults there were
pub record DiskState : Type 0 where
  pub is_open : Bool
  pub faults : ℕ

abbrev pub disk_tray_of : DiskState → TrayState
disk_tray_of d =
    record {
      tells = false;
      file = λ name. None;
      begun = d.is_open;
      left = [];
      asked = None;
      faults = d.faults;
    }

abbrev pub disk_rack_of : DiskState → RackState
disk_rack_of d =
    record {
      tells = false;
      file = λ name. None;
      reported = [];
      is_open = d.is_open;
      current = [];
      asked = None;
      finished = None;
      faults = d.faults;
    }

abbrev pub fresh_disk : DiskState
fresh_disk = record { is_open = false; faults = 0 }
