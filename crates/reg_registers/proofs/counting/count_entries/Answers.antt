use Rattle.std.proofs.Common.{◌≡◌, ◌≤◌, length, sym, ap, subst, ◌∙◌, arith, rules}
use Rattle.std.specs.Prelude.{IsErrAnd}
use Rattle.std.proofs.lemmas.List.{take_all}
use Rattle.reg_core.specs.Page.{entry_rows}
use Rattle.reg_core.specs.View.{entries_of}
use Rattle.reg_keeper.specs.declared.keeper.Fault.{Fault}
use Rattle.reg_keeper.specs.declared.keeper.Fault.TheVariants.{Memory}
use Rattle.reg_keeper.proofs.Premises.{goes_on_there}
use Rattle.reg_core.specs.Counting.{entries_in, entry_counts, plus}
use Rattle.reg_registers.proofs.Counted.{counts-next}
use Rattle.reg_registers.proofs.Selected.{selects_failed, selects_made, selects_stopped, selects_then}
use Rattle.reg_registers.proofs.Selected.{selects_unmade}
use Rattle.reg_registers.proofs.counting.count_entries.Goals as goal

pub loop-name-init : goal.loop-name-init
loop-name-init g c = record {
  value = λ h. search rules;
  same = λ h. search rules;
  premise = goes_on_there (search rules);
  fault = tt;
}

pub loop-name-preserved : goal.loop-name-preserved
loop-name-preserved g c =
    let today = c.args.today in
    let name = c.name-item.result in
    let both : c.in_ok-counts.counts ≡ plus c.loop-name.counts c.of-more.result = search rules in
    selects_then c.loop-name.invariant c.in_ok-entries.ensures.rows (λ w counted listed.
    let more : c.of-more.result ≡ entry_counts today (entry_rows (entries_of name w.entries)) =
    c.of-more.ensures ∙ ap (entry_counts today) (c.as_slice.ensures ∙ listed) in
    both ∙ (λ i. plus (counted i) (more i))
    ∙ sym (counts-next today c.args.names.now c.loop-name.name-index name w
    c.loop-name-test.true (sym c.name-item.is)))

pub returns-in_err-entries : goal.returns-in_err-entries
returns-in_err-entries g c =
    selects_stopped (selects_failed c.loop-name.invariant c.in_err-entries.ensures.rows)
    c.from_residual.result c.from_residual.ensures.1

pub returns-in_err-counts : goal.returns-in_err-counts
returns-in_err-counts g c =
    let memory : c.in_err-counts.field-0.0 ≡ Memory = search rules in
    selects_stopped (selects_unmade c.loop-name.invariant c.in_ok-entries.ensures.rows)
    c.from_residual-in_err-counts.result
    (subst (λ (f : Fault). IsErrAnd c.from_residual-in_err-counts.result (λ e. e ≡ f)) memory
    c.from_residual-in_err-counts.ensures.1)

pub returns : goal.returns
returns g c =
    let long : length c.args.names.now ≤ c.loop-name.name-index =
    omega (arith, c.loop-name-test.false) in
    selects_made c.loop-name.invariant (λ w counted.
    counted ∙ ap (λ names. entry_counts c.args.today (entries_in names w))
    (take_all c.loop-name.name-index c.args.names.now long))
