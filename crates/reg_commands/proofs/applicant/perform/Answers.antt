use Rattle.reg_registers.specs.Caller.{stamp_by}
use Rattle.reg_commands.proofs.applicant.perform.Goals as goal

pub returns-in-Own : goal.returns-in-Own
returns-in-Own g c = rw c.in-Own.is (c.list_own.ensures (stamp_by c.args.caller.now))

pub returns-in-OwnOne : goal.returns-in-OwnOne
returns-in-OwnOne g c = rw c.in-OwnOne.is (c.show_own.ensures (stamp_by c.args.caller.now))

pub returns-in-Holdings : goal.returns-in-Holdings
returns-in-Holdings g c = rw c.in-Holdings.is (c.list_holdings.ensures (stamp_by c.args.caller.now))

pub returns-in-Agents : goal.returns-in-Agents
returns-in-Agents g c = rw c.in-Agents.is (c.list_agents.ensures (stamp_by c.args.caller.now))

pub returns-in-Principals : goal.returns-in-Principals
returns-in-Principals g c = rw c.in-Principals.is (c.list_principals.ensures (stamp_by c.args.caller.now))

pub returns-in-PrincipalRows : goal.returns-in-PrincipalRows
returns-in-PrincipalRows g c = rw c.in-PrincipalRows.is (c.list_principal_rows.ensures (stamp_by c.args.caller.now))

pub returns-in-Submit : goal.returns-in-Submit
returns-in-Submit g c = rw c.in-Submit.is c.submit.ensures
