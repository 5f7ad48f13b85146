use Rattle.reg_parse.proofs.FileFaults.{file_ranges-spared}
use Rattle.reg_parse.proofs.laws.files_have_own_faults.Goals as goal

pub returns : goal.returns
returns c = file_ranges-spared
