-- The steps over trees follow the grammar: what they take is spelled by what they keep, each tree is read,
-- and what was read can always be completed.
use Rattle.std.proofs.Common.{◌≡◌, ℕ, Bool, true, false, List, [], ◌∷◌, Option, Some, None, refl, ap, ◌∙◌, eqb-true, arith, ◌==◌, ◌&&◌, cond, length}
use Rattle.fr_syntax.specs.declared.token.Mark.TheVariants as m
use Rattle.fr_syntax.specs.Tokens.{Lexeme, Name, Number, Sign}
use Rattle.fr_syntax.specs.Grammar.{Empty, Digits, ExprTree, Only, Times, FactorTree, Plain, With, OpTree, Power, Negative, Conjugate, Section, AtomTree, One, Simple, Atom2Tree, Named, Paren, Comm, one, spell_expr, spell_factor, spell_op, spell_atom, spell_atom2}
use Rattle.fr_syntax.specs.Steps.{is_one}
use Rattle.fr_syntax.proofs.Zipper.{TOpen, InParen, InFirst, InSecond, THole, Start, Conj, TFrame, TPlace, AtAtom, AtNegative, AtWord, AtEnd, TReader, TStep, Next, Ends, Stuck, join, go, fill_tree, open_tree, atom_tree, negative_tree, word_tree, close_tree, end_tree, after_tree, place_tree, step_tree, spell_before, spell_hole, spell_open, spell_frames, spell_place, spell_reader}

and_left : (a b : Bool) → (a && b) ≡ true → a ≡ true
and_left true b h = refl
and_left false b h = h

pub one-text : (text : List ℕ) → is_one text ≡ true → text ≡ 49 ∷ []
unfolding is_one
one-text [] h = cc
one-text (c ∷ []) h = ap (λ k. k ∷ []) (eqb-true c 49 h)
one-text (c ∷ e ∷ cs) h = absurd (omega (arith, eqb-true (length (c ∷ e ∷ cs)) 1 (and_left (length (c ∷ e ∷ cs) == 1) (c == 49) h)))

spell_join : (before : Option ExprTree) (factor : FactorTree) (rest : List Lexeme) →
    spell_expr (join before factor) rest ≡ spell_before before (spell_factor factor rest)
spell_join None factor rest = refl
spell_join (Some expr) factor rest = refl

-- what a step says of what it took
abbrev pub Took : TStep → (List Lexeme → List Lexeme) → Lexeme → Type 0
Took (Next reader) spelled token = (rest : List Lexeme) → spelled (token ∷ rest) ≡ spell_reader reader rest
Took (Ends expr) spelled token = (rest : List Lexeme) → spelled rest ≡ spell_expr expr rest
Took Stuck spelled token = Unit {0}

took_one : (frames : List TFrame) (before : Option ExprTree) (text : List ℕ) (b : Bool) → is_one text ≡ b →
    Took (cond b (go frames (AtEnd before (Plain One))) Stuck) (λ rest. spell_frames frames (spell_before before rest)) (Number text)
took_one frames before text true h = λ rest. ap (λ t. spell_frames frames (spell_before before (Number t ∷ rest))) (one-text text h)
took_one frames before text false h = tt

took_atom : (frames : List TFrame) (hole : THole) (token : Lexeme) →
    Took (atom_tree frames hole token) (λ rest. spell_frames frames (spell_hole hole rest)) token
took_atom frames (Start before) (Name name) = λ rest. refl
took_atom frames (Conj before factor) (Name name) = λ rest. refl
took_atom frames (Start before) (Number text) = took_one frames before text (is_one text) refl
took_atom frames (Conj before factor) (Number text) = λ rest. refl
took_atom frames hole (Sign m.LeftParen) = λ rest. refl
took_atom frames hole (Sign m.LeftBracket) = λ rest. refl
took_atom frames (Start before) (Sign m.Minus) = tt
took_atom frames (Conj before factor) (Sign m.Minus) = λ rest. refl
took_atom frames hole _ = tt

took_negative : (frames : List TFrame) (before : Option ExprTree) (factor : FactorTree) (token : Lexeme) →
    Took (negative_tree frames before factor token) (λ rest. spell_frames frames (spell_place (AtNegative before factor) rest)) token
took_negative frames before factor (Number text) = λ rest. refl
took_negative frames before factor _ = tt

took_word : (frames : List TFrame) (before : Option ExprTree) (factor : FactorTree) (token : Lexeme) →
    Took (word_tree frames before factor token) (λ rest. spell_frames frames (spell_place (AtWord before factor) rest)) token
took_word frames before factor (Number text) = λ rest. refl
took_word frames before factor (Sign m.Minus) = λ rest. refl
took_word frames before factor _ = tt

took_close : (frames : List TFrame) (bracket : TOpen) (hole : THole) (expr : ExprTree) (token : Lexeme) →
    Took (close_tree frames bracket hole expr token) (λ rest. spell_frames frames (spell_hole hole (spell_open bracket (spell_expr expr rest)))) token
took_close frames InParen (Start before) expr (Sign m.RightParen) = λ rest. refl
took_close frames InParen (Conj before factor) expr (Sign m.RightParen) = λ rest. refl
took_close frames InFirst hole expr (Sign m.Comma) = λ rest. refl
took_close frames (InSecond left) (Start before) expr (Sign m.RightBracket) = λ rest. refl
took_close frames (InSecond left) (Conj before factor) expr (Sign m.RightBracket) = λ rest. refl
took_close frames _ hole expr _ = tt

took_end : (frames : List TFrame) (expr : ExprTree) (token : Lexeme) →
    Took (end_tree frames expr token) (λ rest. spell_frames frames (spell_expr expr rest)) token
took_end [] expr token = λ rest. refl
took_end (frame ∷ frames) expr token = took_close frames frame.bracket frame.hole expr token

took_after : (frames : List TFrame) (before : Option ExprTree) (factor : FactorTree) (token : Lexeme) →
    Took (after_tree frames before factor token) (λ rest. spell_frames frames (spell_before before (spell_factor factor rest))) token
took_after frames None factor (Sign m.Star) = λ rest. refl
took_after frames (Some expr) factor (Sign m.Star) = λ rest. refl
took_after frames before factor (Sign m.Caret) = λ rest. refl
took_after frames before factor (Sign m.At) = λ rest. refl
took_after frames None factor token = took_end frames (Only factor) token
took_after frames (Some expr) factor token = took_end frames (Times expr factor) token

took_place : (frames : List TFrame) (place : TPlace) (token : Lexeme) →
    Took (place_tree frames place token) (λ rest. spell_frames frames (spell_place place rest)) token
took_place frames (AtAtom hole) token = took_atom frames hole token
took_place frames (AtNegative before factor) token = took_negative frames before factor token
took_place frames (AtWord before factor) token = took_word frames before factor token
took_place frames (AtEnd before factor) token = took_after frames before factor token

-- a step takes its token, or the expression is what was read
pub took : (reader : TReader) (token : Lexeme) → Took (step_tree reader token) (spell_reader reader) token
took reader token = took_place reader.frames reader.place token

-- Whatever goes on after a step goes on after the tokens of a tree.
abbrev pub Goes : {A : Type 0} → (TReader → List Lexeme → A) → Type 0
Goes on = (reader next : TReader) (token : Lexeme) (rest : List Lexeme) → step_tree reader token ≡ Next next → on reader (token ∷ rest) ≡ on next rest

abbrev pub at : List TFrame → TPlace → TReader
at frames place = record { frames = frames; place = place }

abbrev pub after_expr : List TFrame → ExprTree → TReader
after_expr frames (Only factor) = at frames (AtEnd None factor)
after_expr frames (Times expr factor) = at frames (AtEnd (Some expr) factor)

star_after : (frames : List TFrame) (expr : ExprTree) → step_tree (after_expr frames expr) (Sign m.Star) ≡ go frames (AtAtom (Start (Some expr)))
star_after frames (Only factor) = refl
star_after frames (Times expr factor) = refl

close_after : (frames : List TFrame) (hole : THole) (expr : ExprTree) →
    step_tree (after_expr (record { bracket = InParen; hole = hole } ∷ frames) expr) (Sign m.RightParen) ≡ go frames (fill_tree hole (Paren expr))
close_after frames hole (Only factor) = refl
close_after frames hole (Times expr factor) = refl

comma_after : (frames : List TFrame) (hole : THole) (expr : ExprTree) →
    step_tree (after_expr (record { bracket = InFirst; hole = hole } ∷ frames) expr) (Sign m.Comma) ≡ open_tree frames (InSecond expr) hole
comma_after frames hole (Only factor) = refl
comma_after frames hole (Times expr factor) = refl

square_after : (frames : List TFrame) (hole : THole) (left expr : ExprTree) →
    step_tree (after_expr (record { bracket = InSecond left; hole = hole } ∷ frames) expr) (Sign m.RightBracket) ≡ go frames (fill_tree hole (Comm left expr))
square_after frames hole left (Only factor) = refl
square_after frames hole left (Times expr factor) = refl

mutual
  unfolding is_one

  pub reads_expr : {A : Type 0} (on : TReader → List Lexeme → A) → Goes on → (expr : ExprTree) (frames : List TFrame) (rest : List Lexeme) →
      on (at frames (AtAtom (Start None))) (spell_expr expr rest) ≡ on (after_expr frames expr) rest
  reads_expr on goes (Only factor) frames rest = reads_factor on goes factor frames None rest
  reads_expr on goes (Times expr factor) frames rest =
      reads_expr on goes expr frames (Sign m.Star ∷ spell_factor factor rest)
      ∙ goes _ _ _ _ (star_after frames expr)
      ∙ reads_factor on goes factor frames (Some expr) rest

  pub reads_factor : {A : Type 0} (on : TReader → List Lexeme → A) → Goes on → (factor : FactorTree) (frames : List TFrame) (before : Option ExprTree) (rest : List Lexeme) →
      on (at frames (AtAtom (Start before))) (spell_factor factor rest) ≡ on (at frames (AtEnd before factor)) rest
  reads_factor on goes (Plain atom) frames before rest = reads_atom on goes atom frames before rest
  reads_factor on goes (With factor op) frames before rest =
      reads_factor on goes factor frames before (spell_op op rest) ∙ reads_op on goes op frames before factor rest

  pub reads_op : {A : Type 0} (on : TReader → List Lexeme → A) → Goes on → (op : OpTree) (frames : List TFrame) (before : Option ExprTree) (factor : FactorTree) (rest : List Lexeme) →
      on (at frames (AtEnd before factor)) (spell_op op rest) ≡ on (at frames (AtEnd before (With factor op))) rest
  reads_op on goes (Power text) frames before factor rest = goes _ (at frames (AtAtom (Conj before factor))) _ _ refl ∙ goes _ _ _ _ refl
  reads_op on goes (Negative text) frames before factor rest =
      goes _ (at frames (AtAtom (Conj before factor))) _ _ refl ∙ goes _ (at frames (AtNegative before factor)) _ _ refl ∙ goes _ _ _ _ refl
  reads_op on goes (Conjugate atom) frames before factor rest =
      goes _ (at frames (AtAtom (Conj before factor))) _ _ refl ∙ reads_atom2 on goes atom frames (Conj before factor) rest
  reads_op on goes (Section Empty) frames before factor rest = goes _ (at frames (AtWord before factor)) _ _ refl ∙ goes _ _ _ _ refl
  reads_op on goes (Section (Digits text)) frames before factor rest = goes _ (at frames (AtWord before factor)) _ _ refl ∙ goes _ _ _ _ refl

  pub reads_atom : {A : Type 0} (on : TReader → List Lexeme → A) → Goes on → (atom : AtomTree) (frames : List TFrame) (before : Option ExprTree) (rest : List Lexeme) →
      on (at frames (AtAtom (Start before))) (spell_atom atom rest) ≡ on (at frames (AtEnd before (Plain atom))) rest
  reads_atom on goes One frames before rest = goes _ _ _ _ refl
  reads_atom on goes (Simple atom) frames before rest = reads_atom2 on goes atom frames (Start before) rest

  pub reads_atom2 : {A : Type 0} (on : TReader → List Lexeme → A) → Goes on → (atom : Atom2Tree) (frames : List TFrame) (hole : THole) (rest : List Lexeme) →
      on (at frames (AtAtom hole)) (spell_atom2 atom rest) ≡ on (at frames (fill_tree hole atom)) rest
  reads_atom2 on goes (Named name) frames hole rest = goes _ _ _ _ refl
  reads_atom2 on goes (Paren expr) frames hole rest =
      goes _ (at (record { bracket = InParen; hole = hole } ∷ frames) (AtAtom (Start None))) _ _ refl
      ∙ reads_expr on goes expr (record { bracket = InParen; hole = hole } ∷ frames) (Sign m.RightParen ∷ rest)
      ∙ goes _ _ _ _ (close_after frames hole expr)
  reads_atom2 on goes (Comm left right) frames hole rest =
      goes _ (at (record { bracket = InFirst; hole = hole } ∷ frames) (AtAtom (Start None))) _ _ refl
      ∙ reads_expr on goes left (record { bracket = InFirst; hole = hole } ∷ frames) (Sign m.Comma ∷ spell_expr right (Sign m.RightBracket ∷ rest))
      ∙ goes _ (at (record { bracket = InSecond left; hole = hole } ∷ frames) (AtAtom (Start None))) _ _ (comma_after frames hole left)
      ∙ reads_expr on goes right (record { bracket = InSecond left; hole = hole } ∷ frames) (Sign m.RightBracket ∷ rest)
      ∙ goes _ _ _ _ (square_after frames hole left right)

-- what closes the innermost bracket after an expression, and the atom that it then is
abbrev pub closing_tokens : TOpen → List Lexeme → List Lexeme
closing_tokens InParen rest = Sign m.RightParen ∷ rest
closing_tokens InFirst rest = Sign m.Comma ∷ one ∷ Sign m.RightBracket ∷ rest
closing_tokens (InSecond left) rest = Sign m.RightBracket ∷ rest

abbrev pub closed_atom : TOpen → ExprTree → Atom2Tree
closed_atom InParen expr = Paren expr
closed_atom InFirst expr = Comm expr (Only (Plain One))
closed_atom (InSecond left) expr = Comm left expr

abbrev pub filled : THole → Atom2Tree → ExprTree
filled (Start before) atom = join before (Plain (Simple atom))
filled (Conj before factor) atom = join before (With factor (Conjugate atom))

closes : (bracket : TOpen) (hole : THole) (expr : ExprTree) (rest : List Lexeme) →
    spell_hole hole (spell_open bracket (spell_expr expr (closing_tokens bracket rest))) ≡ spell_expr (filled hole (closed_atom bracket expr)) rest
closes InParen (Start None) expr rest = refl
closes InParen (Start (Some before)) expr rest = refl
closes InParen (Conj None factor) expr rest = refl
closes InParen (Conj (Some before) factor) expr rest = refl
closes InFirst (Start None) expr rest = refl
closes InFirst (Start (Some before)) expr rest = refl
closes InFirst (Conj None factor) expr rest = refl
closes InFirst (Conj (Some before) factor) expr rest = refl
closes (InSecond left) (Start None) expr rest = refl
closes (InSecond left) (Start (Some before)) expr rest = refl
closes (InSecond left) (Conj None factor) expr rest = refl
closes (InSecond left) (Conj (Some before) factor) expr rest = refl

-- an expression in open brackets can be completed, whatever follows
pub completes_frames : (frames : List TFrame) (expr : ExprTree) (rest : List Lexeme) →
    (whole : ExprTree) × (more : List Lexeme) × (spell_frames frames (spell_expr expr more) ≡ spell_expr whole rest)
completes_frames [] expr rest = (expr, rest, refl)
completes_frames (frame ∷ frames) expr rest =
    let outer = completes_frames frames (filled frame.hole (closed_atom frame.bracket expr)) rest in (
      outer.0,
      closing_tokens frame.bracket outer.1,
      ap (spell_frames frames) (closes frame.bracket frame.hole expr outer.1) ∙ outer.2,
    )

-- the least that completes the innermost expression
abbrev pub least_tokens : TPlace → List Lexeme → List Lexeme
least_tokens (AtAtom hole) rest = Name (97 ∷ []) ∷ rest
least_tokens (AtNegative before factor) rest = one ∷ rest
least_tokens (AtWord before factor) rest = Sign m.Minus ∷ rest
least_tokens (AtEnd before factor) rest = rest

abbrev pub least_expr : TPlace → ExprTree
least_expr (AtAtom hole) = filled hole (Named (97 ∷ []))
least_expr (AtNegative before factor) = join before (With factor (Negative (49 ∷ [])))
least_expr (AtWord before factor) = join before (With factor (Section Empty))
least_expr (AtEnd before factor) = join before factor

least : (place : TPlace) (rest : List Lexeme) → spell_place place (least_tokens place rest) ≡ spell_expr (least_expr place) rest
least (AtAtom (Start None)) rest = refl
least (AtAtom (Start (Some before))) rest = refl
least (AtAtom (Conj None factor)) rest = refl
least (AtAtom (Conj (Some before) factor)) rest = refl
least (AtNegative None factor) rest = refl
least (AtNegative (Some before) factor) rest = refl
least (AtWord None factor) rest = refl
least (AtWord (Some before) factor) rest = refl
least (AtEnd None factor) rest = refl
least (AtEnd (Some before) factor) rest = refl

-- what was read can be completed to an expression, whatever follows
pub completes : (reader : TReader) (rest : List Lexeme) →
    (whole : ExprTree) × (more : List Lexeme) × (spell_reader reader more ≡ spell_expr whole rest)
completes reader rest =
    let outer = completes_frames reader.frames (least_expr reader.place) rest in
    (outer.0, least_tokens reader.place outer.1, ap (spell_frames reader.frames) (least reader.place outer.1) ∙ outer.2)
