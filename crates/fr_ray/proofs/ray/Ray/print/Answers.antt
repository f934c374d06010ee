use Rattle.fr_ray.proofs.ReadingLaws.{text_reads_back}
use Rattle.fr_ray.proofs.ray.Ray.print.Goals as goal

pub returns-then-is_err-clause-reads_back : goal.returns-then-is_err-clause-reads_back
returns-then-is_err-clause-reads_back c = text_reads_back c.args.self.now c.push_text-printed.ensures.bounded

pub returns-else-is_err-clause-reads_back : goal.returns-else-is_err-clause-reads_back
returns-else-is_err-clause-reads_back c = text_reads_back c.args.self.now c.push_text-printed.ensures.bounded
