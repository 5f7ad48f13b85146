-- What the values of a registry are counted as.
use Rattle.std.specs.Prelude.{ℕ, ◌+◌, ◌-◌, List, map, length, filter, count_by, Option, Some, None, if◌then◌else◌, Bool, true, false}
use Rattle.std.specs.List.{sum_by}
use Rattle.reg_ranges.specs.declared.policy.Treatment.{Treatment}
use Rattle.reg_ranges.specs.declared.policy.Treatment.TheVariants as treatment
use Rattle.reg_ranges.specs.declared.range.Range.{Range}
use Rattle.reg_early.specs.declared.term.Status.{Status}
use Rattle.reg_early.specs.declared.term.Status.TheVariants as status
use Rattle.reg_core.specs.declared.entry.PageEntry.{PageEntry}
use Rattle.reg_core.specs.declared.page.Page.{Page}
use Rattle.reg_print.specs.Listing.{closed_under, is_in, whole}
use Rattle.reg_print.specs.declared.listing.rows.RowStatus as listing
use Rattle.reg_site.specs.declared.summary.Rest.{Rest}
use Rattle.reg_site.specs.declared.summary.Rest.TheVariants.{Free, SetAside, Reserved}
use Rattle.reg_site.specs.declared.summary.RangeShare.{RangeShare}
use Rattle.reg_site.specs.declared.summary.Summary.{Summary}

-- ---- The values of a range

-- where values are assigned one by one those without an entry are free, and elsewhere set aside
abbrev pub rest_by : Option listing.RowStatus → Rest
rest_by None = Free
rest_by (Some closed) = SetAside

abbrev pub rest_of : Treatment → Rest
rest_of (treatment.Under policy) = rest_by (closed_under policy)
rest_of treatment.Reserved = Reserved

-- a range, and how many of its values have an entry
abbrev pub share : List PageEntry → Range → RangeShare
share entries range = record {
  values = whole range;
  treatment = range.treatment;
  used = length (filter (is_in range) entries);
}

-- how many values have no entry
abbrev pub left : RangeShare → ℕ
left s = (s.values.hi + 1 - s.values.lo) - s.used

-- ---- Counts

-- what is left of two ranges is of the same kind
abbrev pub same_rest : Rest → Rest → Bool
same_rest Free Free = true
same_rest SetAside SetAside = true
same_rest Reserved Reserved = true
same_rest _ _ = false

-- how many values of a share are left as this
abbrev pub left_as : Rest → RangeShare → ℕ
left_as rest s = if same_rest (rest_of s.treatment) rest then left s else 0

-- how many values without an entry stand so
abbrev pub all_left : Rest → List RangeShare → ℕ
all_left rest shares = sum_by (left_as rest) shares

abbrev pub same_status : Status → Status → Bool
same_status status.Assigned status.Assigned = true
same_status status.Temporary status.Temporary = true
same_status status.Expired status.Expired = true
same_status _ _ = false

abbrev pub with_status : Status → List PageEntry → ℕ
with_status s entries = count_by (λ e. same_status e.status s) entries

abbrev pub shares : Page → List RangeShare
shares page = map (share page.entries) page.table.ranges

-- what is told of a registry beside others
abbrev pub summary : Page → Summary
summary page = record {
  name = page.name;
  max = page.table.max;
  shares = shares page;
  assigned = with_status status.Assigned page.entries;
  temporary = with_status status.Temporary page.entries;
  expired = with_status status.Expired page.entries;
  free = all_left Free (shares page);
  set_aside = all_left SetAside (shares page);
  reserved = all_left Reserved (shares page);
}
