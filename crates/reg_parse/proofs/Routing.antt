-- What an insert leaves, and that it fails for memory alone.
use Rattle.std.proofs.Common.{◌≡◌, Result, Ok, Err, Option, Some, None, true, is_none, refl}
use Rattle.std.specs.Result.{OnOk}
use Rattle.matchit.specs.Route.{Scan}
use Rattle.matchit.specs.Router.{InsertsRead, RouteOf, nearest}
use Rattle.matchit.specs.declared.error.InsertError.{InsertError}
use Rattle.matchit.specs.declared.error.InsertError.TheVariants.{Conflict, InvalidParam, InvalidParamSegment, InvalidCatchAll, OutOfMemory}
use Rattle.reg_parse.specs.declared.route.Methods.{Methods}
use Rattle.reg_parse.specs.Route.{RouteTable, with_scan, scan_fits}

pub inserted : (read : Result Scan InsertError) (methods : Methods) (old new : RouteTable)
    (r : Result (Unit {0}) InsertError) → InsertsRead read methods old new r
    → OnOk r (new ≡ with_scan read methods old)
inserted (Ok scan) methods old new (Ok u) h = h.1
inserted (Ok scan) methods old new (Err e) h = tt
inserted (Err e) methods old new (Ok u) h = h.0
inserted (Err e) methods old new (Err f) h = tt

near_none : (o : Option (RouteOf Methods)) (n : RouteOf Methods) → is_none o ≡ true → o ≡ Some n → ⊥
near_none None n h e = cc
near_none (Some m) n h e = cc

pub fails_for_memory : (read : Result Scan InsertError) (methods : Methods) (old new : RouteTable)
    (e : InsertError) → InsertsRead read methods old new (Err e) → scan_fits read old ≡ true
    → e ≡ OutOfMemory
fails_for_memory (Ok scan) methods old new (Conflict with) h fit =
    absurd (near_none (nearest scan.pattern old) h.1.0 fit h.1.1)
fails_for_memory (Ok scan) methods old new OutOfMemory h fit = refl
fails_for_memory (Ok scan) methods old new InvalidParam h fit = absurd h.1
fails_for_memory (Ok scan) methods old new InvalidParamSegment h fit = absurd h.1
fails_for_memory (Ok scan) methods old new InvalidCatchAll h fit = absurd h.1
fails_for_memory (Err f) methods old new e h fit = cc
