-- What the system's answer to who asks for a lock is told as.
use Rattle.std.specs.declared.fs.locks.TryLockError.{TryLockError}
use Rattle.std.specs.declared.fs.locks.TryLockError.TheVariants.{Error, WouldBlock}
use Rattle.cat_directory.specs.declared.lock.LockRefusal.{LockRefusal}
use Rattle.cat_directory.specs.declared.lock.LockRefusal.TheVariants.{InUse, Device}

-- another has the lock, or the system can't lock
abbrev pub lock_refusal : TryLockError → LockRefusal
lock_refusal WouldBlock = InUse
lock_refusal (Error error) = Device
