use Rattle.fr_demo.proofs.QuestionLaws.{question_of_draws, state_of_draws}
use Rattle.fr_demo.proofs.script.question.Goals as goal

pub returns-clause-question : goal.returns-clause-question
returns-clause-question c =
    question_of_draws c.args.draws.now.state c.name.new.self.state c.name-2.new.self.state c.name-3.new.self.state c.name.result c.name-2.result c.name-3.result c.name-4.result
    c.name.ensures.state c.name-2.ensures.state c.name-3.ensures.state c.name.ensures.name c.name-2.ensures.name c.name-3.ensures.name c.name-4.ensures.name

pub returns-clause-state : goal.returns-clause-state
returns-clause-state c =
    state_of_draws c.args.draws.now.state c.name.new.self.state c.name-2.new.self.state c.name-3.new.self.state c.name-4.new.self.state
    c.name.ensures.state c.name-2.ensures.state c.name-3.ensures.state c.name-4.ensures.state
