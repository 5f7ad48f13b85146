use Rattle.std.proofs.Common.{◌≡◌, length, take, ◌≤◌, ◌-◌}
use Rattle.reg_tables.proofs.same.ItemsSame.same.Given as goal

abbrev pub invariant-items : goal.invariant-items
invariant-items g l = record {
  front : take l.at l.self ≡ take l.at l.other;
  within : l.at ≤ length l.self;
  lengths : length l.self ≡ length l.other;
}

abbrev pub decreases-items : goal.decreases-items
decreases-items g l = length l.self - l.at
