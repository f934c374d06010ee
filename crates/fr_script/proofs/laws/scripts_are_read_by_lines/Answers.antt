use Rattle.fr_script.proofs.ByLines.{script_from_lines, lines_from_script}
use Rattle.fr_script.proofs.laws.scripts_are_read_by_lines.Goals as goal

pub returns-clause-script : goal.returns-clause-script
returns-clause-script c = script_from_lines

pub returns-clause-lines : goal.returns-clause-lines
returns-clause-lines c = lines_from_script
