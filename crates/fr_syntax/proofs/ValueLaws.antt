-- The reader keeps the values of the trees that it read.
use Rattle.std.proofs.Common.{◌≡◌, ℕ, Bool, true, false, List, [], ◌∷◌, ◌++◌, Option, Some, None, refl, ap, ◌∙◌, cond}
use Rattle.fr_syntax.specs.declared.token.Mark.TheVariants as m
use Rattle.fr_syntax.specs.declared.notes.Notes.{Notes}
use Rattle.fr_syntax.specs.declared.tree.Factor.{Factor}
use Rattle.fr_syntax.specs.declared.unfinished.Open.{Open}
use Rattle.fr_syntax.specs.declared.unfinished.Open.TheVariants as o
use Rattle.fr_syntax.specs.declared.unfinished.Frame.{Frame}
use Rattle.fr_syntax.specs.declared.unfinished.Place.{Place}
use Rattle.fr_syntax.specs.declared.unfinished.Place.TheVariants as p
use Rattle.fr_syntax.specs.declared.reader.Reader.{Reader}
use Rattle.fr_syntax.specs.Tokens.{Lexeme, Name, Number, Sign}
use Rattle.fr_syntax.specs.Grammar.{Empty, Digits, ExprTree, Only, Times, FactorTree, Plain, With, OpTree, Power, Negative, Conjugate, Section, One, Named, Paren, Comm}
use Rattle.fr_syntax.specs.Values.{factors_of, factor_value, op_value, expr_value, note_expr, note_factor}
use Rattle.fr_syntax.specs.Steps as s
use Rattle.fr_syntax.specs.Steps.{is_one, add_op, next, number_step, atom_step, negative_step, word_step, close_step, end_step, after_step, place_step, step}
use Rattle.fr_syntax.proofs.Zipper.{TOpen, InParen, InFirst, InSecond, THole, Start, Conj, TFrame, TPlace, AtAtom, AtNegative, AtWord, AtEnd, TReader, TStep, Next, Ends, Stuck, go, atom_tree, negative_tree, word_tree, close_tree, end_tree, after_tree, place_tree, step_tree}
use Rattle.fr_syntax.proofs.StepLaws.{add_op-last, end_step-last}

abbrev pub before_value : ℕ → Option ExprTree → List Factor
before_value d None = []
before_value d (Some expr) = factors_of d expr

-- the factors of an expression up to one that may get operations
abbrev pub with_last : ℕ → Option ExprTree → FactorTree → List Factor
with_last d before factor = before_value d before ++ factor_value d factor ∷ []

abbrev pub hole_factors : ℕ → THole → List Factor
hole_factors d (Start before) = before_value d before
hole_factors d (Conj before factor) = with_last d before factor

abbrev pub hole_place : THole → Place
hole_place (Start before) = p.Atom
hole_place (Conj before factor) = p.Power

abbrev pub open_value : ℕ → TOpen → Open
open_value d InParen = o.Paren
open_value d InFirst = o.First
open_value d (InSecond left) = o.Second (expr_value d left)

abbrev pub frames_value : ℕ → List TFrame → List Frame
frames_value d [] = []
frames_value d (frame ∷ frames) = frames_value d frames ++ record { «open» = open_value d frame.bracket; factors = hole_factors d frame.hole; place = hole_place frame.hole } ∷ []

abbrev pub place_factors : ℕ → TPlace → List Factor
place_factors d (AtAtom hole) = hole_factors d hole
place_factors d (AtNegative before factor) = with_last d before factor
place_factors d (AtWord before factor) = with_last d before factor
place_factors d (AtEnd before factor) = with_last d before factor

abbrev pub place_value : TPlace → Place
place_value (AtAtom hole) = hole_place hole
place_value (AtNegative before factor) = p.Negative
place_value (AtWord before factor) = p.Word
place_value (AtEnd before factor) = p.After

abbrev pub note_before : ℕ → Option ExprTree → Notes → Notes
note_before d None notes = notes
note_before d (Some expr) notes = note_expr d expr notes

abbrev pub note_hole : ℕ → THole → Notes → Notes
note_hole d (Start before) notes = note_before d before notes
note_hole d (Conj before factor) notes = note_factor d factor (note_before d before notes)

abbrev pub note_open : ℕ → TOpen → Notes → Notes
note_open d InParen notes = notes
note_open d InFirst notes = notes
note_open d (InSecond left) notes = note_expr d left notes

abbrev pub note_frames : ℕ → List TFrame → Notes → Notes
note_frames d [] notes = notes
note_frames d (frame ∷ frames) notes = note_open d frame.bracket (note_hole d frame.hole (note_frames d frames notes))

abbrev pub note_place : ℕ → TPlace → Notes → Notes
note_place d (AtAtom hole) notes = note_hole d hole notes
note_place d (AtNegative before factor) notes = note_factor d factor (note_before d before notes)
note_place d (AtWord before factor) notes = note_factor d factor (note_before d before notes)
note_place d (AtEnd before factor) notes = note_factor d factor (note_before d before notes)

abbrev pub reader_value : ℕ → Notes → TReader → Reader
reader_value d notes reader = record {
  frames = frames_value d reader.frames;
  factors = place_factors d reader.place;
  place = place_value reader.place;
  notes = note_place d reader.place (note_frames d reader.frames notes);
}

abbrev pub step_value : ℕ → Notes → TStep → s.Stepped
step_value d notes (Next reader) = s.Next (reader_value d notes reader)
step_value d notes (Ends expr) = s.Ends (expr_value d expr) (note_expr d expr notes)
step_value d notes Stuck = s.Stuck

-- one operation more on the last factor
more : (d : ℕ) (notes : Notes) (frames : List TFrame) (before : Option ExprTree) (factor : FactorTree) (op : OpTree) (later : Notes) →
    later ≡ note_place d (AtEnd before (With factor op)) (note_frames d frames notes) →
    next (frames_value d frames) (add_op (with_last d before factor) (op_value d op)) p.After later
    ≡ step_value d notes (go frames (AtEnd before (With factor op)))
more d notes frames before factor op later h =
    ap (λ l. next (frames_value d frames) l p.After later) (add_op-last (before_value d before) (factor_value d factor) (op_value d op))
    ∙ ap (λ n. next (frames_value d frames) (with_last d before (With factor op)) p.After n) h

kept_one : (d : ℕ) (notes : Notes) (frames : List TFrame) (before : Option ExprTree) (text : List ℕ) (b : Bool) → is_one text ≡ b →
    number_step (frames_value d frames) (hole_factors d (Start before)) p.Atom (note_before d before (note_frames d frames notes)) text
    ≡ step_value d notes (cond b (go frames (AtEnd before (Plain One))) Stuck)
kept_one d notes frames before text true h = rw h refl
kept_one d notes frames before text false h = rw h refl

kept_atom : (d : ℕ) (notes : Notes) (frames : List TFrame) (hole : THole) (token : Lexeme) →
    atom_step (frames_value d frames) (hole_factors d hole) (hole_place hole) (note_hole d hole (note_frames d frames notes)) token
    ≡ step_value d notes (atom_tree frames hole token)
kept_atom d notes frames (Start before) (Name name) = refl
kept_atom d notes frames (Conj before factor) (Name name) = more d notes frames before factor (Conjugate (Named name)) _ refl
kept_atom d notes frames (Start before) (Number text) = kept_one d notes frames before text (is_one text) refl
kept_atom d notes frames (Conj before factor) (Number text) = more d notes frames before factor (Power text) _ refl
kept_atom d notes frames hole (Sign m.LeftParen) = refl
kept_atom d notes frames hole (Sign m.LeftBracket) = refl
kept_atom d notes frames (Start before) (Sign m.Minus) = refl
kept_atom d notes frames (Conj before factor) (Sign m.Minus) = refl
kept_atom d notes frames hole _ = refl

kept_negative : (d : ℕ) (notes : Notes) (frames : List TFrame) (before : Option ExprTree) (factor : FactorTree) (token : Lexeme) →
    negative_step (frames_value d frames) (with_last d before factor) (note_factor d factor (note_before d before (note_frames d frames notes))) token
    ≡ step_value d notes (negative_tree frames before factor token)
kept_negative d notes frames before factor (Number text) = more d notes frames before factor (Negative text) _ refl
kept_negative d notes frames before factor _ = refl

kept_word : (d : ℕ) (notes : Notes) (frames : List TFrame) (before : Option ExprTree) (factor : FactorTree) (token : Lexeme) →
    word_step d (frames_value d frames) (with_last d before factor) (note_factor d factor (note_before d before (note_frames d frames notes))) token
    ≡ step_value d notes (word_tree frames before factor token)
kept_word d notes frames before factor (Number text) = more d notes frames before factor (Section (Digits text)) _ refl
kept_word d notes frames before factor (Sign m.Minus) = more d notes frames before factor (Section Empty) _ refl
kept_word d notes frames before factor _ = refl

kept_close : (d : ℕ) (notes : Notes) (frames : List TFrame) (bracket : TOpen) (hole : THole) (expr : ExprTree) (token : Lexeme) →
    close_step (frames_value d frames) (open_value d bracket) (hole_factors d hole) (hole_place hole) (expr_value d expr)
    (note_expr d expr (note_open d bracket (note_hole d hole (note_frames d frames notes)))) token
    ≡ step_value d notes (close_tree frames bracket hole expr token)
kept_close d notes frames InParen (Start before) expr (Sign m.RightParen) = refl
kept_close d notes frames InParen (Conj before factor) expr (Sign m.RightParen) = more d notes frames before factor (Conjugate (Paren expr)) _ refl
kept_close d notes frames InFirst hole expr (Sign m.Comma) = refl
kept_close d notes frames (InSecond left) (Start before) expr (Sign m.RightBracket) = refl
kept_close d notes frames (InSecond left) (Conj before factor) expr (Sign m.RightBracket) = more d notes frames before factor (Conjugate (Comm left expr)) _ refl
kept_close d notes frames _ hole expr _ = refl

kept_end : (d : ℕ) (notes : Notes) (frames : List TFrame) (expr : ExprTree) (token : Lexeme) →
    end_step [] (frames_value d frames) (expr_value d expr) (note_expr d expr (note_frames d frames notes)) token
    ≡ step_value d notes (end_tree frames expr token)
kept_end d notes [] expr token = refl
kept_end d notes (frame ∷ frames) expr token =
    end_step-last [] (frames_value d frames) _ (expr_value d expr) _ token
    ∙ kept_close d notes frames frame.bracket frame.hole expr token

kept_after : (d : ℕ) (notes : Notes) (frames : List TFrame) (before : Option ExprTree) (factor : FactorTree) (token : Lexeme) →
    after_step (frames_value d frames) (with_last d before factor) (note_factor d factor (note_before d before (note_frames d frames notes))) token
    ≡ step_value d notes (after_tree frames before factor token)
kept_after d notes frames None factor (Sign m.Star) = refl
kept_after d notes frames (Some expr) factor (Sign m.Star) = refl
kept_after d notes frames before factor (Sign m.Caret) = refl
kept_after d notes frames before factor (Sign m.At) = refl
kept_after d notes frames None factor token = kept_end d notes frames (Only factor) token
kept_after d notes frames (Some expr) factor token = kept_end d notes frames (Times expr factor) token

kept_place : (d : ℕ) (notes : Notes) (frames : List TFrame) (place : TPlace) (token : Lexeme) →
    place_step d (frames_value d frames) (place_factors d place) (place_value place) (note_place d place (note_frames d frames notes)) token
    ≡ step_value d notes (place_tree frames place token)
kept_place d notes frames (AtAtom (Start before)) token = kept_atom d notes frames (Start before) token
kept_place d notes frames (AtAtom (Conj before factor)) token = kept_atom d notes frames (Conj before factor) token
kept_place d notes frames (AtNegative before factor) token = kept_negative d notes frames before factor token
kept_place d notes frames (AtWord before factor) token = kept_word d notes frames before factor token
kept_place d notes frames (AtEnd before factor) token = kept_after d notes frames before factor token

-- a step on values is the step on trees
pub kept : (d : ℕ) (notes : Notes) (reader : TReader) (token : Lexeme) →
    step d (reader_value d notes reader) token ≡ step_value d notes (step_tree reader token)
kept d notes reader token = kept_place d notes reader.frames reader.place token
