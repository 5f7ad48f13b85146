use Rattle.std.proofs.Common.{Err, Ok, Result, inr, refl, subst, sym, ◌∙◌}
use Rattle.std.specs.Prelude.{IfErr, MatchResult}
use Rattle.reg_statements.specs.Loading.{IsAscending}
use Rattle.reg_statements.proofs.ReadLemmas.{reads_form, same_values}
use Rattle.reg_statements.proofs.select.all.Goals as goal

err_so : {A E : Type 0} (P : A → Type 0) (Q R : E → Type 0) (r : Result A E)
    → ((e : E) → Q e → R e) → MatchResult r P Q → IfErr r R
err_so P Q R (Ok a) f h = tt
err_so P Q R (Err e) f h = f e h

pub returns-in-Some-clause-fault : goal.returns-in-Some-clause-fault
returns-in-Some-clause-fault g c =
    err_so _ _ _ c.in_order.result (λ fault it. inr (record {
      told = it.0;
      rows = λ works.
          let read = rw c.in-Some.is at (c.in_ok-rows.ensures.rows works) in (
            read.0,
            read.1,
            λ ordered. it.1 (subst (IsAscending g.T.Keyed.order)
                (same_values ordered.0 c.in-Some.rows.items (sym ordered.1 ∙ read.2)) ordered.2),
          );
    })) c.in_order.ensures

pub returns-in-None-clause-fault : goal.returns-in-None-clause-fault
returns-in-None-clause-fault g c = inr (record {
  told = refl;
  rows = λ works.
      let read = rw c.in-None.is at (c.in_ok-rows.ensures.rows works) in
      (read.0, read.1, λ ordered. read.2 (reads_form _ read.0 ordered.0 ordered.1));
})
