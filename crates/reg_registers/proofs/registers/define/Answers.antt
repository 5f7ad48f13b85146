use Rattle.std.proofs.Common.{◌≡◌, refl, sym, ap, ◌∙◌}
use Rattle.std.specs.Prelude.{ℕ, List}
use Rattle.std.specs.FinMap.{get}
use Rattle.std.specs.Option.{option_copied}
use Rattle.std.proofs.lemmas.Bool.{and_from}
use Rattle.reg_ranges.specs.Tables.{Table}
use Rattle.reg_core.specs.Answer.{by_rule}
use Rattle.reg_core.specs.Names.{is_name}
use Rattle.reg_core.specs.Registry.{has_table_form}
use Rattle.reg_core.specs.Rules.{define_rule}
use Rattle.reg_core.specs.World.{World}
use Rattle.reg_core.specs.declared.command.ClerkCommand.TheVariants.{Define}
use Rattle.reg_core.specs.declared.told.Told.TheVariants.{Defined}
use Rattle.reg_core.proofs.Fitting.{define_fits}
use Rattle.reg_registers.specs.Answers.{answer_to_clerk}
use Rattle.reg_registers.proofs.Decided.{Decides, makes_fitting, performs_decided, the_value}
use Rattle.reg_registers.proofs.Rows.{selected_after}
use Rattle.reg_registers.proofs.registers.define.Given.{Over}
use Rattle.reg_registers.proofs.registers.define.Goals.{After-decide_define}
use Rattle.reg_registers.proofs.registers.define.Goals as goal

module _ (g : Over) (c : After-decide_define g) where
  abbrev w : World
  w = g.K.Keeper.world c.ranges-2.new.self

  abbrev name : List ℕ
  name = c.args.name.now

  abbrev table : Table
  table = c.args.table.now

  -- what was looked up is the table of that name
  found : g.K.Keeper.Holds c.ranges-2.new.self
      → get w.registries name ≡ option_copied c.as_ref.result
  found h = sym (c.as_ref.ensures.value ∙ selected_after c.in_ok-existing.ensures h)

  decides : Decides g.K.Keeper.world g.K.Keeper.Holds g.K.Keeper.Sound
      c.args.keeper.now c.ranges-2.new.self
      (answer_to_clerk c.args.caller.now (Define name table))
      (define_rule (option_copied c.as_ref.result) name table) (λ decision. Defined name)
  decides = record {
    answered = λ h.
        ap (λ o. by_rule (define_rule o name table) (λ decision. Defined name)) (found h);
    fits = λ h kept change made.
        define_fits w name table change kept
        (and_from (is_name name) (has_table_form table) c.formed.ensures c.formed-2.ensures)
        (ap (λ o. define_rule o name table) (found h) ∙ made);
    same = c.in_ok-existing.ensures.same;
    premise = c.in_ok-existing.ensures.premise;
  }

pub conclude-requires : goal.conclude-requires
conclude-requires g c =
    makes_fitting c.in_ok-decision.decision
    (decides g (goal.at.conclude-requires g c).After-decide_define) c.in_ok-decision.ensures

pub returns : goal.returns
returns g c =
    let concluded = c.in_ok-conclude.ensures in
    performs_decided c.in_ok-decision.decision
    (decides g (goal.at.returns g c).After-decide_define) c.in_ok-decision.ensures
    (ap Defined (the_value c.args.name.now concluded.told refl)) concluded.change
