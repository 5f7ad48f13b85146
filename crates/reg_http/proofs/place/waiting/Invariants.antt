use Rattle.std.proofs.Common.{◌≡◌, ◌+◌, ◌-◌, ◌≤◌, ◌^◌, min, sum_by, drop}
use Rattle.reg_http.specs.Places.{one_if_asking}
use Rattle.reg_http.proofs.place.waiting.Given as goal

-- those that were counted and those of the places that are left are all
abbrev pub invariant-loop-place : goal.invariant-loop-place
invariant-loop-place l = record {
  fits : l.count ≤ 2 ^ 64 - 1;
  counted : min (l.count + sum_by one_if_asking (drop l.place-index l.places)) (2 ^ 64 - 1)
      ≡ min (sum_by one_if_asking l.places) (2 ^ 64 - 1);
}
