use Rattle.reg_core.proofs.SamenessIsDecided.{same_advice-decides, same_ask-decides, same_cap-decides, same_kind-decides}
use Rattle.reg_core.proofs.laws.sameness_is_decided.Goals as goal

pub returns-clause-asks : goal.returns-clause-asks
returns-clause-asks c = same_ask-decides

pub returns-clause-advice : goal.returns-clause-advice
returns-clause-advice c = same_advice-decides

pub returns-clause-capabilities : goal.returns-clause-capabilities
returns-clause-capabilities c = same_cap-decides

pub returns-clause-kinds : goal.returns-clause-kinds
returns-clause-kinds c = same_kind-decides
