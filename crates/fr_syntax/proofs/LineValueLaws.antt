-- The reader of lines keeps the values of the trees that it read, so it reads what the grammar derives.
use Rattle.std.proofs.Common.{◌≡◌, ℕ, suc, ◌+◌, ◌<◌, List, [], ◌∷◌, ◌++◌, Option, Some, None, refl, ap, sym, ◌∙◌, map, drop, length, get_or, add-one, drop-cons}
use Rattle.std.proofs.lemmas.List.{drop-map}
use Rattle.fr_syntax.specs.declared.token.Mark.TheVariants as m
use Rattle.fr_syntax.specs.declared.token.Placed.{Placed}
use Rattle.fr_syntax.specs.declared.keyword.Keyword.{Keyword}
use Rattle.fr_syntax.specs.declared.keyword.Keyword.TheVariants as k
use Rattle.fr_syntax.specs.declared.notes.Notes.{Notes}
use Rattle.fr_syntax.specs.declared.tree.Expr.{Expr}
use Rattle.fr_syntax.specs.declared.tree.Factor.{Factor}
use Rattle.fr_syntax.specs.declared.reader.ReadExpr.{ReadExpr}
use Rattle.fr_syntax.specs.declared.unfinished.Frame.{Frame}
use Rattle.fr_syntax.specs.declared.unfinished.Place.{Place}
use Rattle.fr_syntax.specs.declared.line.Goal.{Goal}
use Rattle.fr_syntax.specs.declared.line.Goal.TheVariants as g
use Rattle.fr_syntax.specs.declared.line.Spot.{Spot}
use Rattle.fr_syntax.specs.declared.line.Spot.TheVariants as sp
use Rattle.fr_syntax.specs.declared.line.ReadLine.{ReadLine}
use Rattle.fr_syntax.specs.declared.line.LineReading.{LineReading}
use Rattle.fr_syntax.specs.declared.line.LineReading.TheVariants as r
use Rattle.fr_syntax.specs.Tokens.{Lexeme, Name, Number, Sign}
use Rattle.fr_syntax.specs.Lines.{lexeme}
use Rattle.fr_syntax.specs.Keywords.{keyword_of}
use Rattle.fr_syntax.specs.Grammar.{ExprTree, ExprsTree, LineTree, line_tokens}
use Rattle.fr_syntax.specs.Values.{no_notes, letters_of, expr_value, note_expr, note_digits}
use Rattle.fr_syntax.specs.Steps as e
use Rattle.fr_syntax.specs.LineValues.{exprs_value, note_exprs, line_value, line_notes, line_read, Reads}
use Rattle.fr_syntax.specs.LineSteps as spec
use Rattle.fr_syntax.proofs.Zipper.{TStep, Next, Ends, Stuck, TFrame, Start, Conj, TPlace, AtAtom, AtNegative, AtWord, AtEnd, step_tree, begun_tree}
use Rattle.fr_syntax.proofs.ValueLaws.{reader_value, step_value, frames_value, place_factors, place_value, kept}
use Rattle.fr_syntax.proofs.LineZipper.{TGoal, ForLet, ForShow, ForStates, ForWreath, ForClass, ForFirst, ForSecond, ForAct, ForRay, ForOrder, ForNucleus, TSpot, AtKeyword, AtAlphabet, AtLetName, AtLetEquals, InExpr, AtRayOpen, AtRayPeriod, AtRayClose, Done, keyword_tree, fresh_tree, follow_tree, on_tree, take_tree, finish_place_tree, finish_reader_tree, ended_tree, finish_tree}
use Rattle.fr_syntax.proofs.LineLaws.{exact_lines}
use Rattle.fr_syntax.proofs.Runs.{Outcome, Found, Fault, at_end, go_on, outcome_from, Tells, tells}

abbrev pub list_value : ℕ → Option ExprsTree → List Expr
list_value d None = []
list_value d (Some exprs) = exprs_value d exprs

abbrev pub goal_value : ℕ → TGoal → Goal
goal_value d (ForLet name) = g.Let name
goal_value d ForShow = g.Show
goal_value d ForStates = g.States
goal_value d ForWreath = g.Wreath
goal_value d ForClass = g.ClassOf
goal_value d ForFirst = g.First
goal_value d (ForSecond left) = g.Second (expr_value d left)
goal_value d ForAct = g.Act
goal_value d ForRay = g.Ray
goal_value d ForOrder = g.Order
goal_value d (ForNucleus exprs) = g.Nucleus (list_value d exprs)

abbrev pub goal_notes : ℕ → TGoal → Notes
goal_notes d (ForSecond left) = note_expr d left no_notes
goal_notes d (ForNucleus (Some exprs)) = note_exprs d exprs no_notes
goal_notes d _ = no_notes

abbrev pub before_letters : ℕ → Option (List ℕ) → List ℕ
before_letters d None = []
before_letters d (Some text) = letters_of d text

abbrev pub before_notes : ℕ → Option (List ℕ) → Notes → Notes
before_notes d None notes = notes
before_notes d (Some text) notes = note_digits d text notes

abbrev pub spot_value : ℕ → TSpot → Spot
spot_value d AtKeyword = sp.Keyword
spot_value d AtAlphabet = sp.AlphabetNumber
spot_value d AtLetName = sp.LetName
spot_value d (AtLetEquals name) = sp.LetEquals name
spot_value d (InExpr goal reader) = sp.Expr (goal_value d goal) (reader_value d (goal_notes d goal) reader)
spot_value d (AtRayOpen expr before) = sp.RayOpen (expr_value d expr) (letters_of d before) (note_digits d before (note_expr d expr no_notes))
spot_value d (AtRayPeriod expr before) = sp.RayPeriod (expr_value d expr) (before_letters d before) (before_notes d before (note_expr d expr no_notes))
spot_value d (AtRayClose expr before period) =
    sp.RayClose (expr_value d expr) (before_letters d before) (letters_of d period) (note_digits d period (before_notes d before (note_expr d expr no_notes)))
spot_value d (Done line) = sp.Whole (line_value d line) (line_notes d line)

abbrev pub after_value : ℕ → Option TSpot → Option Spot
after_value d None = None
after_value d (Some spot) = Some (spot_value d spot)

same_keyword : (d : ℕ) (found : Option Keyword) → spec.keyword_step found ≡ after_value d (keyword_tree found)
same_keyword d None = refl
same_keyword d (Some k.Alphabet) = refl
same_keyword d (Some k.Group) = refl
same_keyword d (Some k.Let) = refl
same_keyword d (Some k.Show) = refl
same_keyword d (Some k.States) = refl
same_keyword d (Some k.Wreath) = refl
same_keyword d (Some k.Class) = refl
same_keyword d (Some k.Eq) = refl
same_keyword d (Some k.Act) = refl
same_keyword d (Some k.Ray) = refl
same_keyword d (Some k.Order) = refl
same_keyword d (Some k.Nucleus) = refl

same_fresh : (d : ℕ) (left : ExprTree) (after : TStep) →
    spec.on_fresh (g.Second (expr_value d left)) (step_value d (note_expr d left no_notes) after) ≡ after_value d (fresh_tree (ForSecond left) after)
same_fresh d left (Next reader) = refl
same_fresh d left (Ends expr) = refl
same_fresh d left Stuck = refl

same_follow : (d : ℕ) (goal : TGoal) (expr : ExprTree) (token : Lexeme) →
    spec.follow d (goal_value d goal) (expr_value d expr) (note_expr d expr (goal_notes d goal)) token ≡ after_value d (follow_tree goal expr token)
same_follow d ForFirst expr token =
    ap (spec.on_fresh (g.Second (expr_value d expr))) (kept d (note_expr d expr no_notes) begun_tree token)
    ∙ same_fresh d expr (step_tree begun_tree token)
same_follow d ForAct expr (Number text) = refl
same_follow d ForAct expr (Sign m.Minus) = refl
same_follow d ForRay expr (Number text) = refl
same_follow d ForRay expr (Sign m.LeftParen) = refl
same_follow d ForOrder expr (Number text) = refl
same_follow d (ForNucleus None) expr (Sign m.Comma) = refl
same_follow d (ForNucleus (Some exprs)) expr (Sign m.Comma) = refl
same_follow d _ expr token = refl

same_step : (d : ℕ) (goal : TGoal) (token : Lexeme) (after : TStep) →
    spec.on_step d (goal_value d goal) token (step_value d (goal_notes d goal) after) ≡ after_value d (on_tree goal token after)
same_step d goal token (Next reader) = refl
same_step d goal token (Ends expr) = same_follow d goal expr token
same_step d goal token Stuck = refl

-- a step of the line on values is the step on trees
same_take : (d : ℕ) (spot : TSpot) (token : Lexeme) → spec.take d (spot_value d spot) token ≡ after_value d (take_tree spot token)
same_take d AtKeyword (Name text) = same_keyword d (keyword_of text)
same_take d AtAlphabet (Number text) = refl
same_take d AtLetName (Name name) = refl
same_take d (AtLetEquals name) (Sign m.Equals) = refl
same_take d (InExpr goal reader) token =
    ap (spec.on_step d (goal_value d goal) token) (kept d (goal_notes d goal) reader token) ∙ same_step d goal token (step_tree reader token)
same_take d (AtRayOpen expr before) (Sign m.LeftParen) = refl
same_take d (AtRayPeriod expr before) (Number period) = refl
same_take d (AtRayClose expr None period) (Sign m.RightParen) = refl
same_take d (AtRayClose expr (Some before) period) (Sign m.RightParen) = refl
same_take d _ token = refl

abbrev pub found_value : ℕ → Option LineTree → Option ReadLine
found_value d None = None
found_value d (Some line) = Some (line_read d line)

abbrev pub expr_found : ℕ → Notes → Option ExprTree → Option ReadExpr
expr_found d notes None = None
expr_found d notes (Some expr) = Some (record { expr = expr_value d expr; notes = note_expr d expr notes })

none_open : (outer : List Frame) (frame : Frame) (factors : List Factor) (place : Place) (notes : Notes) → e.finish_place (outer ++ frame ∷ []) factors place notes ≡ None
none_open [] frame factors place notes = refl
none_open (other ∷ outer) frame factors place notes = refl

same_place : (d : ℕ) (notes : Notes) (frames : List TFrame) (place : TPlace) →
    e.finish (reader_value d notes (record { frames = frames; place = place })) ≡ expr_found d notes (finish_place_tree frames place)
same_place d notes [] (AtAtom (Start before)) = refl
same_place d notes [] (AtAtom (Conj before factor)) = refl
same_place d notes [] (AtNegative before factor) = refl
same_place d notes [] (AtWord before factor) = refl
same_place d notes [] (AtEnd None factor) = refl
same_place d notes [] (AtEnd (Some expr) factor) = refl
same_place d notes (frame ∷ frames) place = none_open (frames_value d frames) _ (place_factors d place) (place_value place) _

same_ended : (d : ℕ) (goal : TGoal) (found : Option ExprTree) →
    spec.ended_by (goal_value d goal) (expr_found d (goal_notes d goal) found) ≡ found_value d (ended_tree goal found)
same_ended d goal None = refl
same_ended d (ForLet name) (Some expr) = refl
same_ended d ForShow (Some expr) = refl
same_ended d ForStates (Some expr) = refl
same_ended d ForWreath (Some expr) = refl
same_ended d ForClass (Some expr) = refl
same_ended d (ForSecond left) (Some expr) = refl
same_ended d (ForNucleus None) (Some expr) = refl
same_ended d (ForNucleus (Some exprs)) (Some expr) = refl
same_ended d _ (Some expr) = refl

same_finish : (d : ℕ) (spot : TSpot) → spec.finish (spot_value d spot) ≡ found_value d (finish_tree spot)
same_finish d (Done line) = refl
same_finish d (InExpr goal reader) =
    ap (spec.ended_by (goal_value d goal)) (same_place d (goal_notes d goal) reader.frames reader.place)
    ∙ same_ended d goal (finish_reader_tree reader)
same_finish d _ = refl

abbrev pub outcome_value : ℕ → Outcome LineTree → LineReading
outcome_value d (Found line) = r.Whole (line_read d line)
outcome_value d (Fault k) = r.Syntax k

same_end : (d count : ℕ) (found : Option LineTree) → spec.at_end count (found_value d found) ≡ outcome_value d (at_end count found)
same_end d count None = refl
same_end d count (Some line) = refl

same_from : (d count : ℕ) (spot : TSpot) (tokens : List Lexeme) →
    spec.read_from d count (spot_value d spot) tokens ≡ outcome_value d (outcome_from exact_lines count spot tokens)
same_from d count spot [] = ap (spec.at_end count) (same_finish d spot) ∙ same_end d count (finish_tree spot)
same_from d count spot (token ∷ tokens) =
    ap (spec.read_on (λ next. spec.read_from d (suc count) next tokens) count) (same_take d spot token)
    ∙ on (take_tree spot token) (λ next. same_from d (suc count) next tokens)
  where
    on : (after : Option TSpot) →
        ((next : TSpot) → spec.read_from d (suc count) (spot_value d next) tokens ≡ outcome_value d (outcome_from exact_lines (suc count) next tokens)) →
        spec.read_on (λ next. spec.read_from d (suc count) next tokens) count (after_value d after)
        ≡ outcome_value d (go_on (λ next. outcome_from exact_lines (suc count) next tokens) count after)
    on None later = refl
    on (Some next) later = later next

reads_outcome : (d : ℕ) (tokens : List Lexeme) (outcome : Outcome LineTree) → Tells line_tokens tokens outcome → Reads d tokens (outcome_value d outcome)
reads_outcome d tokens (Found line) h = (line, h, refl)
reads_outcome d tokens (Fault k) h = h

-- the tokens of a line are read as the grammar says
pub reads : (d : ℕ) (tokens : List Lexeme) → Reads d tokens (spec.reading d tokens)
unfolding spec.reading
reads d tokens =
    let same : spec.read_from d 0 sp.Keyword tokens ≡ outcome_value d (outcome_from exact_lines 0 AtKeyword tokens) = same_from d 0 AtKeyword tokens in
    rw same (reads_outcome d tokens (outcome_from exact_lines 0 AtKeyword tokens) (tells exact_lines tokens))

-- the loop over the tokens
token_at : (tokens : List Placed) (k : ℕ) (missing : Placed) → k < length tokens →
    drop k (map lexeme tokens) ≡ lexeme (get_or tokens k missing) ∷ drop (k + 1) (map lexeme tokens)
token_at tokens k missing h =
    drop-map lexeme k tokens ∙ ap (map lexeme) (drop-cons tokens k missing h) ∙ ap (λ rest. lexeme (get_or tokens k missing) ∷ rest) (rw (add-one) (sym (drop-map lexeme (suc k) tokens)))

pub goes_on : (d k : ℕ) (spot next : Spot) (tokens : List Placed) (missing : Placed) (whole : LineReading) → k < length tokens →
    Some next ≡ spec.take d spot (lexeme (get_or tokens k missing)) → spec.read_from d k spot (drop k (map lexeme tokens)) ≡ whole →
    spec.read_from d (k + 1) next (drop (k + 1) (map lexeme tokens)) ≡ whole
goes_on d k spot next tokens missing whole h taken before =
    rw (add-one)
    (ap (spec.read_on (λ s. spec.read_from d (suc k) s (drop (suc k) (map lexeme tokens))) k) taken
    ∙ sym (rw (add-one) at (ap (spec.read_from d k spot) (token_at tokens k missing h)))
    ∙ before)

pub stops : (d k : ℕ) (spot : Spot) (tokens : List Placed) (missing : Placed) (whole : LineReading) → k < length tokens →
    None ≡ spec.take d spot (lexeme (get_or tokens k missing)) → spec.read_from d k spot (drop k (map lexeme tokens)) ≡ whole → r.Syntax k ≡ whole
stops d k spot tokens missing whole h taken before =
    ap (spec.read_on (λ s. spec.read_from d (suc k) s (drop (k + 1) (map lexeme tokens))) k) taken
    ∙ sym (ap (spec.read_from d k spot) (token_at tokens k missing h))
    ∙ before
