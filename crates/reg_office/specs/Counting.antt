-- How many rows of each kind there are, requests and acts among them.
use Rattle.std.specs.Prelude.{ℕ, Bool, true, false, List, length, count_by}
use Rattle.reg_core.specs.Counting.{counts}
use Rattle.reg_core.specs.Request.{request_rows, word_of}
use Rattle.reg_core.specs.World.{World}
use Rattle.reg_core.specs.declared.request.Request.{Request}
use Rattle.reg_core.specs.declared.request.StateWord.{StateWord}
use Rattle.reg_core.specs.declared.request.StateWord.TheVariants.{Pending, Approved, Declined, Withdrawn}
use Rattle.reg_keeper.specs.Keeper.{all_acts}
use Rattle.reg_office.specs.declared.counting.AllCounts.{AllCounts}
use Rattle.reg_office.specs.declared.counting.RequestCounts.{RequestCounts}

-- ---- Requests

abbrev pub same_word : StateWord → StateWord → Bool
same_word Pending Pending = true
same_word Approved Approved = true
same_word Declined Declined = true
same_word Withdrawn Withdrawn = true
same_word a b = false

abbrev pub in_state : StateWord → List Request → ℕ
in_state word requests = count_by (λ r. same_word (word_of r.state) word) requests

abbrev pub request_counts : List Request → RequestCounts
request_counts requests = record {
  all = length requests;
  pending = in_state Pending requests;
  approved = in_state Approved requests;
  declined = in_state Declined requests;
  withdrawn = in_state Withdrawn requests;
}

-- ---- All of an office

-- at a moment, and on its day
abbrev pub all_counts : ℕ → ℕ → World → AllCounts
all_counts moment today w = record {
  others = counts moment today w;
  requests = request_counts (request_rows w.requests);
  acts = length (all_acts w);
}
