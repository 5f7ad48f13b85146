use Rattle.std.proofs.Common.{◌≡◌, List, [], ◌++◌, ap, ◌∙◌}
use Rattle.std.specs.Prelude.{is_ok, if◌then◌else◌}
use Rattle.reg_core.specs.Journal.{with_acts}
use Rattle.reg_core.specs.World.{World, applied}
use Rattle.reg_core.specs.declared.journal.Act.{Act}
use Rattle.reg_store.specs.Lists.{world_in}
use Rattle.reg_store.proofs.JournalLaws.{with_acts-append}
use Rattle.reg_store.proofs.lists.ListKeeperKeeper.record.Goals as goal

pub returns : goal.returns
returns c =
    let w = world_in c.args.self.now in
    let old : List Act = c.args.self.now.journal.items in
    let kept : List Act = c.make.new.self.journal.items in
    let all : List Act = c.extend_from_slice.new.self.items in
    let stays : kept ≡ old =
    ap (λ j. j.items) c.in_ok-make.ensures.journal ∙ c.reserve.ensures.items in
    let longer : all ≡ old ++ c.args.acts.now =
    c.extend_from_slice.ensures.items
    ∙ ap (λ r. if is_ok r then kept ++ c.args.acts.now else kept) c.unwrap.ensures
    ∙ ap (λ (items : List Act). items ++ c.args.acts.now) stays in
    let made =
    c.in_ok-make.ensures.made
    ∙ ap (λ (items : List Act). applied (record w { journal = with_acts items [] }) c.args.change)
    c.reserve.ensures.items in
    record {
      made = λ h.
          ap (λ (v : World). record v { journal = with_acts all [] }) made
          ∙ ap (λ (j : List Act). record (applied w c.args.change) { journal = j })
          (ap (λ items. with_acts items []) longer
          ∙ with_acts-append old c.args.acts.now []);
      kept = λ h. tt;
      premise = record { before = λ h. h; sound = λ s. s; after = λ s unfailed h. h };
      fault = tt;
    }
