-- Something is left where the place is not the end.
use Rattle.cases.proofs.WentOn.{not_found}
use Rattle.cases.proofs.WholeCases.{more_left}
use Rattle.cases.proofs.reader.CaseReader.end.Goals as goal

pub returns-else-self : goal.returns-else-self
returns-else-self c = rw (← c.self.view_is) (not_found _ _ (more_left _ _ c.if-self.false))
