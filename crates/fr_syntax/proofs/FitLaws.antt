-- What a line of the grammar says fits its alphabet.
use Rattle.std.proofs.Common.{◌≡◌, ℕ, suc, ◌+◌, ◌<◌, ◌≤◌, ◌==◌, Bool, true, false, ◌&&◌, ◌||◌, cond, List, [], ◌∷◌, ◌++◌, Option, Some, None, Result, Ok, Err, map, length, refl, ap, sym, ◌∙◌, subst, arith, length-append}
use Rattle.std.specs.Prelude.{nat_le, nat_lt}
use Rattle.std.proofs.lemmas.Bool.{leb-true, ne_eqb}
use Rattle.std.proofs.lemmas.List.{length-map}
use Rattle.fr_model.specs.Words.{IsWord, IsLetter}
use Rattle.fr_alphabet.specs.declared.word.WordFault.{WordFault}
use Rattle.fr_alphabet.specs.declared.word.WordFault.TheVariants.{WordTooLong, NotALetter}
use Rattle.fr_alphabet.specs.Reading.{short_reading, digits_reading, bad_place, is_letter_digit, letter_of_digit}
use Rattle.fr_syntax.specs.declared.tree.Expr.{Expr, out-Expr, out-roll-Expr}
use Rattle.fr_syntax.specs.declared.tree.Factor.{Factor, out-Factor, out-roll-Factor}
use Rattle.fr_syntax.specs.declared.tree.Atom.{Atom, out-Atom}
use Rattle.fr_syntax.specs.declared.tree.Atom.TheVariants as a
use Rattle.fr_syntax.specs.declared.tree.Atom.TheOpen as layer
use Rattle.fr_syntax.specs.declared.tree.Op.{Op}
use Rattle.fr_syntax.specs.declared.notes.Notes.{Notes}
use Rattle.fr_syntax.specs.Tokens.{Number}
use Rattle.fr_syntax.specs.Lines.{lexemes, tokens_of}
use Rattle.fr_syntax.specs.Grammar.{WordTree, Empty, Digits, ExprTree, Only, Times, FactorTree, Plain, With, OpTree, Power, Negative, Conjugate, Section, AtomTree, One, Simple, Atom2Tree, Named, Paren, Comm, RayTree, Periodic, Eventually, ExprsTree, OneExpr, MoreExprs, LineTree, AlphabetLine, GroupLine, LetLine, ShowLine, StatesLine, WreathLine, ClassLine, EqLine, ActLine, RayLine, OrderLine, NucleusLine, spell_ray, line_tokens}
use Rattle.fr_syntax.specs.Values.{no_notes, note_expr, is_refused, has_bad_letter, read_letters, letters_of, word_value, factors_of, factor_value, op_value, atom_value, atom2_value, expr_value, product, plain, with_op, capped_value}
use Rattle.fr_syntax.specs.LineValues.{ray_value, note_ray, exprs_value, line_value, line_notes}
use Rattle.fr_syntax.proofs.TextLaws.{IsNumeral, AreNumerals, tokens_length, tokens_of-numerals, tokens_of-length, numerals-expr, length-expr}
use Rattle.fr_syntax.specs.Fits.{AtomLayer, FitsExpr, expr_fits, FitsFactors, no_factors, more_factors, FitsAtom, atom_fits, FitsAtomLayer, one_fits, name_fits, paren_fits, comm_fits, FitsOps, no_ops, more_ops, FitsOp, power_fits, conj_fits, at_fits, FitsExprs, FitsRay, FitsLine}

and-both : (b c : Bool) → (b && c) ≡ true → (b ≡ true) × (c ≡ true)
and-both true c h = (refl, h)
and-both false c h = cc

letter-from : (d c : ℕ) → is_letter_digit d c ≡ true → IsLetter d (letter_of_digit c)
letter-from d c h =
    let both = and-both (nat_le 49 c) (nat_le c (48 + d)) h in
    let low : 49 ≤ c = leb-true 49 c both.0 in
    let high : c ≤ 48 + d = leb-true c (48 + d) both.1 in
    (omega (arith, low), omega (arith, low, high))

-- digits with no bad one write letters
digits-letters : (d k : ℕ) (text : List ℕ) → bad_place d k text ≡ None → IsWord d (map letter_of_digit text)
digits-letters d k [] h = tt
digits-letters d k (c ∷ cs) h = by (is_letter_digit d c) refl h (λ m g. digits-letters d m cs g)
  where
    by : (b : Bool) → is_letter_digit d c ≡ b → cond b (bad_place d (suc k) cs) (Some k) ≡ None →
        ((m : ℕ) → bad_place d m cs ≡ None → IsWord d (map letter_of_digit cs)) → IsWord d (map letter_of_digit (c ∷ cs))
    by true e g later = (letter-from d c e, later (suc k) g)
    by false e g later = cc

digits_reading-word : (d : ℕ) (text : List ℕ) → IsWord d (read_letters (digits_reading d text))
digits_reading-word d text = by (bad_place d 1 text) refl
  where
    P : Option ℕ → Type 0
    P o = IsWord d (read_letters (elim o as (λ x. Result (List ℕ) WordFault) [ Some k ↦ Err (NotALetter k) | None ↦ Ok (map letter_of_digit text) ]))

    by : (o : Option ℕ) → bad_place d 1 text ≡ o → P (bad_place d 1 text)
    by None e = subst P (sym e) (digits-letters d 1 text e)
    by (Some k) e = subst P (sym e) tt

minus-word : (d : ℕ) (b : Bool) (reading : Result (List ℕ) WordFault) → IsWord d (read_letters reading) → IsWord d (read_letters (cond b (Ok []) reading))
minus-word d true reading h = tt
minus-word d false reading h = h

short_reading-word : (d : ℕ) (text : List ℕ) → IsWord d (read_letters (short_reading d text))
short_reading-word d [] = tt
short_reading-word d (c ∷ []) = minus-word d (c == 45) (digits_reading d (c ∷ [])) (digits_reading-word d (c ∷ []))
short_reading-word d (c ∷ e ∷ cs) = digits_reading-word d (c ∷ e ∷ cs)

long-word : (d : ℕ) (b : Bool) (reading : Result (List ℕ) WordFault) → IsWord d (read_letters reading) → IsWord d (read_letters (cond b (Err WordTooLong) reading))
long-word d true reading h = tt
long-word d false reading h = h

pub letters_of-word : (d : ℕ) (text : List ℕ) → IsWord d (letters_of d text)
unfolding letters_of
letters_of-word d text = long-word d (nat_lt 4096 (length text)) (short_reading d text) (short_reading-word d text)

word_value-word : (d : ℕ) (w : WordTree) → IsWord d (word_value d w)
word_value-word d Empty = tt
word_value-word d (Digits text) = letters_of-word d text

-- a factor by itself
abbrev FitsFactor : ℕ → Factor → Type 0
FitsFactor d f = FitsAtom d (out-Factor f).atom × FitsOps d (out-Factor f).ops

factors-append : (d : ℕ) (fs : List Factor) (f : Factor) → FitsFactors d fs → FitsFactor d f → FitsFactors d (fs ++ f ∷ [])
factors-append d [] f h g = more_factors f [] g.0 g.1 no_factors
factors-append d (e ∷ fs) f (more_factors _ _ x y h) g = more_factors e (fs ++ f ∷ []) x y (factors-append d fs f h g)

ops-append : (d : ℕ) (ops : List Op) (op : Op) → FitsOps d ops → FitsOp d op → FitsOps d (ops ++ op ∷ [])
ops-append d [] op h g = more_ops op [] g no_ops
ops-append d (o ∷ ops) op (more_ops _ _ x h) g = more_ops o (ops ++ op ∷ []) x (ops-append d ops op h g)

plain-fits : (d : ℕ) (atom : Atom) → FitsAtom d atom → FitsFactor d (plain atom)
plain-fits d atom h =
    let out : out-Factor (plain atom) ≡ record { atom = atom; ops = [] } = out-roll-Factor (record { atom = atom; ops = [] }) in
    (subst (λ x. FitsAtom d x.atom) (sym out) h, subst (λ x. FitsOps d x.ops) (sym out) no_ops)

with_op-fits : (d : ℕ) (f : Factor) (op : Op) → FitsFactor d f → FitsOp d op → FitsFactor d (with_op f op)
with_op-fits d f op h g =
    let out : out-Factor (with_op f op) ≡ record { atom = (out-Factor f).atom; ops = (out-Factor f).ops ++ op ∷ [] } =
    out-roll-Factor (record { atom = (out-Factor f).atom; ops = (out-Factor f).ops ++ op ∷ [] }) in
    (subst (λ x. FitsAtom d x.atom) (sym out) h.0, subst (λ x. FitsOps d x.ops) (sym out) (ops-append d (out-Factor f).ops op h.1 g))

product-fits : (d : ℕ) (fs : List Factor) → 0 < length fs → FitsFactors d fs → FitsExpr d (product fs)
product-fits d fs some h =
    let out : out-Expr (product fs) ≡ record { factors = fs } = out-roll-Expr (record { factors = fs }) in
    expr_fits (product fs) (subst (λ x. 0 < length x.factors) (sym out) some) (subst (λ x. FitsFactors d x.factors) (sym out) h)

layer-fits : (d : ℕ) (atom : Atom) (outer : AtomLayer) → out-Atom atom ≡ outer → FitsAtomLayer d outer → FitsAtom d atom
layer-fits d atom outer e h = atom_fits atom (subst (λ x. FitsAtomLayer d x) (sym e) h)

some-factors : (d : ℕ) (e : ExprTree) → 0 < length (factors_of d e)
some-factors d (Only factor) = omega arith
some-factors d (Times e factor) = simp length-append (omega arith)

mutual
  factors-fit : (d : ℕ) (e : ExprTree) → FitsFactors d (factors_of d e)
  factors-fit d (Only factor) = let f = factor-fits d factor in more_factors (factor_value d factor) [] f.0 f.1 no_factors
  factors-fit d (Times e factor) = factors-append d (factors_of d e) (factor_value d factor) (factors-fit d e) (factor-fits d factor)

  factor-fits : (d : ℕ) (f : FactorTree) → FitsFactor d (factor_value d f)
  factor-fits d (Plain atom) = plain-fits d (atom_value d atom) (atom-fits d atom)
  factor-fits d (With factor op) = with_op-fits d (factor_value d factor) (op_value d op) (factor-fits d factor) (op-fits d op)

  op-fits : (d : ℕ) (op : OpTree) → FitsOp d (op_value d op)
  op-fits d (Power text) = power_fits false (capped_value text)
  op-fits d (Negative text) = power_fits true (capped_value text)
  op-fits d (Conjugate atom) = conj_fits (atom2_value d atom) (atom2-fits d atom)
  op-fits d (Section w) = at_fits (word_value d w) (word_value-word d w)

  atom-fits : (d : ℕ) (atom : AtomTree) → FitsAtom d (atom_value d atom)
  atom-fits d One = layer-fits d a.One layer.One a.outs-One one_fits
  atom-fits d (Simple atom) = atom2-fits d atom

  atom2-fits : (d : ℕ) (atom : Atom2Tree) → FitsAtom d (atom2_value d atom)
  atom2-fits d (Named name) = layer-fits d (a.Named name) (layer.Named name) (a.outs-Named name) (name_fits name)
  atom2-fits d (Paren e) =
      layer-fits d (a.Paren (product (factors_of d e))) (layer.Paren (product (factors_of d e))) (a.outs-Paren (product (factors_of d e)))
      (paren_fits (product (factors_of d e)) (product-fits d (factors_of d e) (some-factors d e) (factors-fit d e)))
  atom2-fits d (Comm left right) =
      layer-fits d (a.Comm (product (factors_of d left)) (product (factors_of d right))) (layer.Comm (product (factors_of d left)) (product (factors_of d right)))
      (a.outs-Comm (product (factors_of d left)) (product (factors_of d right)))
      (comm_fits (product (factors_of d left)) (product (factors_of d right))
      (product-fits d (factors_of d left) (some-factors d left) (factors-fit d left)) (product-fits d (factors_of d right) (some-factors d right) (factors-fit d right)))

pub expr-fits : (d : ℕ) (e : ExprTree) → FitsExpr d (expr_value d e)
expr-fits d e = product-fits d (factors_of d e) (some-factors d e) (factors-fit d e)

long-refused : (d : ℕ) (b : Bool) (reading : Result (List ℕ) WordFault) → is_refused (cond b (Err WordTooLong) reading) ≡ false →
    (is_refused reading ≡ false) × (read_letters (cond b (Err WordTooLong) reading) ≡ read_letters reading)
long-refused d true reading h = cc
long-refused d false reading h = (h, refl)

minus-refused : (b : Bool) (reading : Result (List ℕ) WordFault) → b ≡ false → is_refused (cond b (Ok []) reading) ≡ false →
    (is_refused reading ≡ false) × (read_letters (cond b (Ok []) reading) ≡ read_letters reading)
minus-refused true reading e h = cc
minus-refused false reading e h = (h, refl)

digits-length : (d : ℕ) (text : List ℕ) → is_refused (digits_reading d text) ≡ false → length (read_letters (digits_reading d text)) ≡ length text
digits-length d text = by (bad_place d 1 text)
  where
    by : (o : Option ℕ) → is_refused (elim o as (λ x. Result (List ℕ) WordFault) [ Some k ↦ Err (NotALetter k) | None ↦ Ok (map letter_of_digit text) ]) ≡ false →
        length (read_letters (elim o as (λ x. Result (List ℕ) WordFault) [ Some k ↦ Err (NotALetter k) | None ↦ Ok (map letter_of_digit text) ])) ≡ length text
    by None h = length-map text letter_of_digit
    by (Some k) h = cc

short-length : (d : ℕ) (text : List ℕ) → IsNumeral (Number text) → is_refused (short_reading d text) ≡ false →
    (0 < length text) × (length (read_letters (short_reading d text)) ≡ length text)
short-length d [] n h = cc
short-length d (c ∷ []) n h =
    let no : (c == 45) ≡ false = ne_eqb c 45 n in
    let told = minus-refused (c == 45) (digits_reading d (c ∷ [])) no h in
    (omega arith, ap length told.1 ∙ digits-length d (c ∷ []) told.0)
short-length d (c ∷ e ∷ cs) n h = (omega arith, digits-length d (c ∷ e ∷ cs) h)

-- a numeral that is no refused word has a letter for each digit
letters_of-length : (d : ℕ) (text : List ℕ) → IsNumeral (Number text) → has_bad_letter d text ≡ false → (0 < length text) × (length (letters_of d text) ≡ length text)
unfolding letters_of has_bad_letter
letters_of-length d text n h =
    let told = long-refused d (nat_lt 4096 (length text)) (short_reading d text) h in
    let short = short-length d text n told.0 in
    (short.0, ap length told.1 ∙ short.1)

or-neither : (a b : Bool) → (a || b) ≡ false → (a ≡ false) × (b ≡ false)
or-neither true b h = cc
or-neither false b h = (refl, h)

ray-fits : (d : ℕ) (ray : RayTree) (notes : Notes) → AreNumerals (spell_ray ray []) → tokens_length (spell_ray ray []) ≤ 4096 →
    (note_ray d ray notes).not_a_letter ≡ false → FitsRay d (ray_value d ray)
ray-fits d (Periodic period) notes n few h =
    let told = letters_of-length d period n.1.0 (or-neither notes.not_a_letter (has_bad_letter d period) h).1 in
    record { before = tt; period = letters_of-word d period; some = omega (arith, told.0, told.1); most = omega (arith, told.1, few) }
ray-fits d (Eventually before period) notes n few h =
    let both = or-neither (notes.not_a_letter || has_bad_letter d before) (has_bad_letter d period) h in
    let front = letters_of-length d before n.0 (or-neither notes.not_a_letter (has_bad_letter d before) both.0).1 in
    let told = letters_of-length d period n.1.1.0 both.1 in
    record {
      before = letters_of-word d before;
      period = letters_of-word d period;
      some = omega (arith, told.0, told.1);
      most = omega (arith, front.1, told.1, few);
    }

exprs-append : (d : ℕ) (es : List Expr) (e : Expr) → FitsExprs d es → FitsExpr d e → FitsExprs d (es ++ e ∷ [])
exprs-append d [] e h g = (g, tt)
exprs-append d (f ∷ es) e h g = (h.0, exprs-append d es e h.1 g)

exprs-fit : (d : ℕ) (es : ExprsTree) → (0 < length (exprs_value d es)) × FitsExprs d (exprs_value d es)
exprs-fit d (OneExpr e) = (omega arith, (expr-fits d e, tt))
exprs-fit d (MoreExprs es e) = (simp length-append (omega arith), exprs-append d (exprs_value d es) (expr_value d e) (exprs-fit d es).1 (expr-fits d e))

-- what a line of the grammar says fits, where its tokens are those of a text that is not too long and none of its words is refused
line-by-tokens : (d : ℕ) (line : LineTree) → AreNumerals (line_tokens line) → tokens_length (line_tokens line) ≤ 4096 → (line_notes d line).not_a_letter ≡ false →
    FitsLine d (line_value d line)
line-by-tokens d (AlphabetLine text) n few h = tt
line-by-tokens d GroupLine n few h = tt
line-by-tokens d (LetLine name e) n few h = λ low high. expr-fits d e
line-by-tokens d (ShowLine e) n few h = λ low high. expr-fits d e
line-by-tokens d (StatesLine e) n few h = λ low high. expr-fits d e
line-by-tokens d (WreathLine e) n few h = λ low high. expr-fits d e
line-by-tokens d (ClassLine e) n few h = λ low high. expr-fits d e
line-by-tokens d (EqLine left right) n few h = λ low high. (expr-fits d left, expr-fits d right)
line-by-tokens d (ActLine e w) n few h = λ low high. (expr-fits d e, word_value-word d w)
line-by-tokens d (RayLine e ray) n few h = λ low high. (
  expr-fits d e,
  ray-fits d ray (note_expr d e no_notes) (numerals-expr e (spell_ray ray []) n.1) (omega (arith, few, length-expr e (spell_ray ray []))) h,
)
line-by-tokens d (OrderLine e text) n few h = λ low high. expr-fits d e
line-by-tokens d (NucleusLine es) n few h = λ low high. exprs-fit d es

-- what a line of at most 4,096 bytes says fits the alphabet over which it is read, where none of its words is refused
pub line-fits : (d : ℕ) (text : List ℕ) (line : LineTree) → lexemes (tokens_of text) ≡ line_tokens line → length text ≤ 4096 → (line_notes d line).not_a_letter ≡ false →
    FitsLine d (line_value d line)
line-fits d text line e few h =
    line-by-tokens d line (subst (λ ts. AreNumerals ts) e (tokens_of-numerals text)) (omega (arith, ap tokens_length e, tokens_of-length text, few)) h
