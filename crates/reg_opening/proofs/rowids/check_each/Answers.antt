use Rattle.std.proofs.Common.{ℕ, List, [], ◌∷◌, get_or, inl, inr, refl, subst, sym}
use Rattle.std.specs.List.{AllByRecursion}
use Rattle.sqlite.specs.Effect.{Database}
use Rattle.sqlite.specs.Held.{state}
use Rattle.sqlite.specs.Tree.{Trees}
use Rattle.reg_tables.specs.Editing.{AreKeyed}
use Rattle.reg_tables.specs.Kinds.{IsQuery}
use Rattle.reg_tables.specs.Selecting.{BeginsWith, ordered_by}
use Rattle.reg_tables.proofs.Enduring.{endures_still, endures_then}
use Rattle.reg_tables.proofs.RestLemmas.{stays_then}
use Rattle.reg_tables.proofs.TextSlices.{blank, first_and_rest, none_left, rest, said}
use Rattle.reg_statements.proofs.ReadLemmas.{passed_on}
use Rattle.reg_opening.specs.Rowids.{IsAmong, KeysEach, SelectsRowids}
use Rattle.reg_opening.proofs.Causes.{cause_later, cause_wider}
use Rattle.reg_opening.proofs.rowids.check_each.Goals as goal

keys_none : (trees : Trees) → KeysEach [] trees
keys_none trees [] rowids = tt
keys_none trees (t ∷ tables) rowids = absurd rowids

keys_more : (text : List ℕ) (texts : List (List ℕ)) (trees : Trees)
    → ((t : ℕ) → SelectsRowids text t (ordered_by (0 ∷ [])) → AreKeyed (trees t))
    → KeysEach texts trees → KeysEach (text ∷ texts) trees
keys_more text texts trees one each [] rowids = absurd rowids
keys_more text texts trees one each (t ∷ tables) rowids =
    (one t.tree rowids.0, each tables rowids.1)

pub check_table-requires-clause-plain : goal.check_table-requires-clause-plain
check_table-requires-clause-plain g c =
    (subst (AllByRecursion IsQuery) (first_and_rest c.texts.texts.now c.in-len1-up.len_at_least)
    c.texts.invariant.plain).0

pub texts-init : goal.texts-init
texts-init g c = record {
  idle = c.requires.idle;
  endures = endures_still _;
  stays = record { worked = λ h. h; unchanged = λ h. refl };
  plain = c.requires.plain;
  among = λ sql among. among;
  keyed = λ h begins keys. keys;
}

pub texts-preserved : goal.texts-preserved
texts-preserved g c =
    let old = state g.S.Store c.args.conn.now in
    let mid = state g.S.Store c.texts.conn in
    let new = state g.S.Store c.check_table.new.conn in
    let texts = c.texts.texts.now in
    let was = c.texts.invariant in
    let split = first_and_rest texts c.in-len1-up.len_at_least in
    let here = c.in_ok-check_table.ensures in
    record {
      idle = here.idle;
      endures = endures_then old mid new was.endures here.endures;
      stays = stays_then old mid new was.stays here.stays;
      plain = (subst (AllByRecursion IsQuery) split was.plain).1;
      among = λ sql among. was.among sql
          (subst (λ left. IsAmong left sql) (sym split) (inr among));
      keyed = λ h begins keys.
          let worked = here.stays.worked h in
          let same = was.stays.unchanged worked in
          let still = subst (λ (db : Database). BeginsWith 4 db.schema) (sym same) begins in
          was.keyed worked begins (subst (λ left. KeysEach left old.now.trees) (sym split)
          (keys_more (get_or texts 0 blank).now (said (rest texts)) old.now.trees
          (λ t selects. subst (λ (db : Database). AreKeyed (db.trees t)) same
          (here.keyed h still t (ordered_by (0 ∷ [])) selects)) keys));
    }

pub returns-clause-keyed : goal.returns-clause-keyed
returns-clause-keyed g c h begins =
    let old = state g.S.Store c.args.conn.now in
    c.texts.invariant.keyed h begins (subst (λ left. KeysEach left old.now.trees)
    (sym (none_left c.texts.texts.now c.in_default.len_below)) (keys_none old.now.trees))

pub returns-in_err-check_table-clause-fault : goal.returns-in_err-check_table-clause-fault
returns-in_err-check_table-clause-fault g c =
    let old = state g.S.Store c.args.conn.now in
    let mid = state g.S.Store c.texts.conn in
    let new = state g.S.Store c.check_table.new.conn in
    let texts = c.texts.texts.now in
    let was = c.texts.invariant in
    let split = first_and_rest texts c.in-len1-up.len_at_least in
    let here = c.in_err-check_table.ensures in
    passed_on _ c.from_residual.result c.in_err-check_table.field-0.0 c.from_residual.ensures.1
    (cause_later old mid new _ was.stays here.stays
    (cause_wider mid new _ (λ sql rows shows. (
      was.among sql (subst (λ left. IsAmong left sql) (sym split) (inl shows.0)),
      shows.1,
    )) here.fault))
