use Rattle.reg_opening.proofs.audit.Audit.admits.Goals as goal

pub returns-then-is_new-clause-world : goal.returns-then-is_new-clause-world
returns-then-is_new-clause-world c = λ w keeps kept. (
  (λ h. ((c.is_new.ensures w keeps kept).0 c.if-is_new.true, (c.fits.ensures.world w keeps kept).0 h)),
  (λ both. (c.fits.ensures.world w keeps kept).1 both.1),
)
