use Rattle.fr_nucleus.proofs.survey.Survey.new.Goals as goal

pub returns : goal.returns
returns c = λ d. record { told = c.in_ok-new.ensures; reached = c.new-2.ensures d }
