use Rattle.std.proofs.Common.{◌≡◌, ◌⊎◌}
use Rattle.std.proofs.lemmas.Result.{IfOk-weaker, IfErr-weaker}
use Rattle.fr_model.specs.Terms.{IsAlike}
use Rattle.fr_model.specs.Classes.{HasMoreThan}
use Rattle.fr_nucleus.specs.declared.fault.NucleusFault.{NucleusFault}
use Rattle.fr_nucleus.specs.declared.fault.NucleusFault.TheVariants.{NoMemory, TooManySections}
use Rattle.fr_nucleus.specs.Joining.{HasRowOfEither, IsUnion, IsAmong, HasAll}
use Rattle.fr_nucleus.proofs.ListLaws.{either-weaker}
use Rattle.fr_nucleus.proofs.SectionLaws.{HasMoreThan-wider, among_either, HasAll-from}
use Rattle.fr_nucleus.proofs.sections.with_sections.Goals as goal

pub returns-clause-rows : goal.returns-clause-rows
returns-clause-rows c =
    let found = c.args.found.now.rows in
    let m = c.args.m.now.rows in
    let inverses = c.in_ok-inverse.inverse.rows in
    let both = c.in_ok-both.both.rows in
    IfOk-weaker c.with_rows.result (λ q. IsUnion found both q.rows) (λ q. HasAll found m q.rows)
    (λ q h. HasAll-from found m inverses both c.in_ok-inverse.ensures.size c.in_ok-inverse.ensures.rows c.in_ok-both.ensures.rows q.rows h) c.with_rows.ensures.rows

pub returns-clause-err : goal.returns-clause-err
returns-clause-err c =
    let found = c.args.found.now.rows in
    let m = c.args.m.now.rows in
    let inverses = c.in_ok-inverse.inverse.rows in
    let both = c.in_ok-both.both.rows in
    let P : NucleusFault → Type 0 = λ e. (e ≡ NoMemory) ⊎ ((e ≡ TooManySections) × HasMoreThan (HasRowOfEither found both) IsAlike 64) in
    let Q : NucleusFault → Type 0 = λ e. (e ≡ NoMemory) ⊎ ((e ≡ TooManySections) × HasMoreThan (IsAmong found m) IsAlike 64) in
    IfErr-weaker c.with_rows.result P Q
    (either-weaker NoMemory TooManySections (HasMoreThan (HasRowOfEither found both) IsAlike 64) (HasMoreThan (IsAmong found m) IsAlike 64) (HasMoreThan-wider (HasRowOfEither found both) (IsAmong found m) 64 (among_either found m inverses both c.in_ok-inverse.ensures.size c.in_ok-inverse.ensures.rows c.in_ok-both.ensures.rows))) c.with_rows.ensures.err
