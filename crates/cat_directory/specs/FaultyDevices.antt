-- What is seen of a device that fails where it is told to: the device within, which calls are to fail, and its counts.
use Rattle.std.specs.Prelude.{ℕ}
use Rattle.cat_directory.specs.declared.faulty.Faults.{Faults}
use Rattle.cat_directory.specs.declared.faulty.Faulty.{Faulty}

-- the device within
abbrev pub device_within : {D : Type 0} → Faulty D → D
device_within faulty = faulty.device

-- which calls are to fail from now on
abbrev pub faults_in : {D : Type 0} → Faulty D → Faults
faults_in faulty = faulty.fuse.faults

-- how many calls there were
abbrev pub calls_in : {D : Type 0} → Faulty D → ℕ
calls_in faulty = faulty.fuse.calls

-- how many of them failed
abbrev pub failures_in : {D : Type 0} → Faulty D → ℕ
failures_in faulty = faulty.fuse.failures
