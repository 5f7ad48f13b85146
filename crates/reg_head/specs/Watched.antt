-- Whether a read failed.
use Rattle.std.specs.Prelude.{◌≡◌, Bool, true, Result, Ok, Err}
use Rattle.reg_head.specs.declared.unread.Unread.{Unread}
use Rattle.reg_head.specs.declared.unread.Unread.TheVariants as unread
use Rattle.reg_head.specs.declared.watch.Watch.{Watch}

-- a read failed
abbrev pub has_failed : Watch → Bool
has_failed watch = watch.failed

-- a read failed where that is why nothing was read; else none did
abbrev pub IsWatched : {T : Type 0} → Watch → Watch → Result T Unread → Type 0
IsWatched old new (Ok value) = new ≡ old
IsWatched old new (Err (unread.Refused why)) = new ≡ old
IsWatched old new (Err unread.Read) = has_failed new ≡ true
IsWatched old new (Err unread.Memory) = new ≡ old
