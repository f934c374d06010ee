-- The grammar: its trees, and how each is spelled. A tree of a rule spells what the rule derives.
use Rattle.std.specs.Prelude.{ℕ, List, [], ◌∷◌, codes}
use Rattle.fr_syntax.specs.declared.token.Mark.TheVariants as m
use Rattle.fr_syntax.specs.declared.keyword.Keyword.{Keyword}
use Rattle.fr_syntax.specs.declared.keyword.Keyword.TheVariants as k
use Rattle.fr_syntax.specs.Tokens.{Lexeme, Name, Number, Sign}

-- word = "-" | NUMBER
pub data WordTree : Type 0 where
  Empty : WordTree
  Digits : List ℕ → WordTree

mutual
  -- expr = factor { "*" factor }
  pub data ExprTree : Type 0 where
    Only : FactorTree → ExprTree
    Times : ExprTree → FactorTree → ExprTree

  -- factor = atom { operation }
  pub data FactorTree : Type 0 where
    Plain : AtomTree → FactorTree
    With : FactorTree → OpTree → FactorTree

  -- an operation is "^" NUMBER | "^" "-" NUMBER | "^" atom2 | "@" word
  pub data OpTree : Type 0 where
    Power : List ℕ → OpTree
    Negative : List ℕ → OpTree
    Conjugate : Atom2Tree → OpTree
    Section : WordTree → OpTree

  -- atom = "1" | atom2
  pub data AtomTree : Type 0 where
    One : AtomTree
    Simple : Atom2Tree → AtomTree

  -- atom2 = NAME | "(" expr ")" | "[" expr "," expr "]"
  pub data Atom2Tree : Type 0 where
    Named : List ℕ → Atom2Tree
    Paren : ExprTree → Atom2Tree
    Comm : ExprTree → ExprTree → Atom2Tree

-- the number token whose text is 1
abbrev pub one : Lexeme
one = Number (49 ∷ [])

-- The tokens of a tree, and then the rest.
abbrev pub spell_word : WordTree → List Lexeme → List Lexeme
spell_word Empty rest = Sign m.Minus ∷ rest
spell_word (Digits text) rest = Number text ∷ rest

abbrev mutual
  pub spell_expr : ExprTree → List Lexeme → List Lexeme
  spell_expr (Only factor) rest = spell_factor factor rest
  spell_expr (Times expr factor) rest = spell_expr expr (Sign m.Star ∷ spell_factor factor rest)

  pub spell_factor : FactorTree → List Lexeme → List Lexeme
  spell_factor (Plain atom) rest = spell_atom atom rest
  spell_factor (With factor op) rest = spell_factor factor (spell_op op rest)

  pub spell_op : OpTree → List Lexeme → List Lexeme
  spell_op (Power text) rest = Sign m.Caret ∷ Number text ∷ rest
  spell_op (Negative text) rest = Sign m.Caret ∷ Sign m.Minus ∷ Number text ∷ rest
  spell_op (Conjugate atom) rest = Sign m.Caret ∷ spell_atom2 atom rest
  spell_op (Section word) rest = Sign m.At ∷ spell_word word rest

  pub spell_atom : AtomTree → List Lexeme → List Lexeme
  spell_atom One rest = one ∷ rest
  spell_atom (Simple atom) rest = spell_atom2 atom rest

  pub spell_atom2 : Atom2Tree → List Lexeme → List Lexeme
  spell_atom2 (Named name) rest = Name name ∷ rest
  spell_atom2 (Paren expr) rest = Sign m.LeftParen ∷ spell_expr expr (Sign m.RightParen ∷ rest)
  spell_atom2 (Comm left right) rest =
      Sign m.LeftBracket ∷ spell_expr left (Sign m.Comma ∷ spell_expr right (Sign m.RightBracket ∷ rest))

-- ray = [ NUMBER ] "(" NUMBER ")"
pub data RayTree : Type 0 where
  Periodic : List ℕ → RayTree
  Eventually : List ℕ → List ℕ → RayTree

-- expr { "," expr }
pub data ExprsTree : Type 0 where
  OneExpr : ExprTree → ExprsTree
  MoreExprs : ExprsTree → ExprTree → ExprsTree

-- A line outside a block, by its first word.
pub data LineTree : Type 0 where
  AlphabetLine : List ℕ → LineTree
  GroupLine : LineTree
  LetLine : List ℕ → ExprTree → LineTree
  ShowLine : ExprTree → LineTree
  StatesLine : ExprTree → LineTree
  WreathLine : ExprTree → LineTree
  ClassLine : ExprTree → LineTree
  EqLine : ExprTree → ExprTree → LineTree
  ActLine : ExprTree → WordTree → LineTree
  RayLine : ExprTree → RayTree → LineTree
  OrderLine : ExprTree → List ℕ → LineTree
  NucleusLine : ExprsTree → LineTree

-- how the first words are written
abbrev pub spelling : Keyword → List ℕ
spelling k.Alphabet = codes "alphabet"
spelling k.Group = codes "group"
spelling k.Let = codes "let"
spelling k.Show = codes "show"
spelling k.States = codes "states"
spelling k.Wreath = codes "wreath"
spelling k.Class = codes "class"
spelling k.Eq = codes "eq"
spelling k.Act = codes "act"
spelling k.Ray = codes "ray"
spelling k.Order = codes "order"
spelling k.Nucleus = codes "nucleus"

-- the tokens of a ray, and then the rest
abbrev pub spell_ray : RayTree → List Lexeme → List Lexeme
spell_ray (Periodic period) rest = Sign m.LeftParen ∷ Number period ∷ Sign m.RightParen ∷ rest
spell_ray (Eventually before period) rest = Number before ∷ Sign m.LeftParen ∷ Number period ∷ Sign m.RightParen ∷ rest

-- the tokens of a list of expressions, and then the rest
abbrev pub spell_exprs : ExprsTree → List Lexeme → List Lexeme
spell_exprs (OneExpr expr) rest = spell_expr expr rest
spell_exprs (MoreExprs exprs expr) rest = spell_exprs exprs (Sign m.Comma ∷ spell_expr expr rest)

-- the token of a first word
abbrev pub word : Keyword → Lexeme
word keyword = Name (spelling keyword)

-- the tokens of a line
abbrev pub spell_line : LineTree → List Lexeme → List Lexeme
spell_line (AlphabetLine text) rest = word k.Alphabet ∷ Number text ∷ rest
spell_line GroupLine rest = word k.Group ∷ rest
spell_line (LetLine name expr) rest = word k.Let ∷ Name name ∷ Sign m.Equals ∷ spell_expr expr rest
spell_line (ShowLine expr) rest = word k.Show ∷ spell_expr expr rest
spell_line (StatesLine expr) rest = word k.States ∷ spell_expr expr rest
spell_line (WreathLine expr) rest = word k.Wreath ∷ spell_expr expr rest
spell_line (ClassLine expr) rest = word k.Class ∷ spell_expr expr rest
spell_line (EqLine left right) rest = word k.Eq ∷ spell_expr left (spell_expr right rest)
spell_line (ActLine expr w) rest = word k.Act ∷ spell_expr expr (spell_word w rest)
spell_line (RayLine expr ray) rest = word k.Ray ∷ spell_expr expr (spell_ray ray rest)
spell_line (OrderLine expr text) rest = word k.Order ∷ spell_expr expr (Number text ∷ rest)
spell_line (NucleusLine exprs) rest = word k.Nucleus ∷ spell_exprs exprs rest

-- the tokens of a line
abbrev pub line_tokens : LineTree → List Lexeme
line_tokens line = spell_line line []
