-- What was read of a line outside a block, as trees.
use Rattle.std.specs.Prelude.{ℕ, List, [], ◌∷◌, Option, Some, None}
use Rattle.fr_syntax.specs.declared.token.Mark.TheVariants as m
use Rattle.fr_syntax.specs.declared.keyword.Keyword.{Keyword}
use Rattle.fr_syntax.specs.declared.keyword.Keyword.TheVariants as k
use Rattle.fr_syntax.specs.Tokens.{Lexeme, Name, Number, Sign}
use Rattle.fr_syntax.specs.Keywords.{keyword_of}
use Rattle.fr_syntax.specs.Grammar.{Empty, Digits, ExprTree, RayTree, Periodic, Eventually, ExprsTree, OneExpr, MoreExprs, LineTree, AlphabetLine, GroupLine, LetLine, ShowLine, StatesLine, WreathLine, ClassLine, EqLine, ActLine, RayLine, OrderLine, NucleusLine, spell_expr, spell_exprs, spell_line, word}
use Rattle.fr_syntax.proofs.Zipper.{TReader, TStep, Next, Ends, Stuck, TFrame, TPlace, AtEnd, join, step_tree, begun_tree, spell_reader}

pub data TGoal : Type 0 where
  ForLet : List ℕ → TGoal
  ForShow : TGoal
  ForStates : TGoal
  ForWreath : TGoal
  ForClass : TGoal
  ForFirst : TGoal
  ForSecond : ExprTree → TGoal
  ForAct : TGoal
  ForRay : TGoal
  ForOrder : TGoal
  ForNucleus : Option ExprsTree → TGoal

pub data TSpot : Type 0 where
  AtKeyword : TSpot
  AtAlphabet : TSpot
  AtLetName : TSpot
  AtLetEquals : List ℕ → TSpot
  InExpr : TGoal → TReader → TSpot
  AtRayOpen : ExprTree → List ℕ → TSpot
  AtRayPeriod : ExprTree → Option (List ℕ) → TSpot
  AtRayClose : ExprTree → Option (List ℕ) → List ℕ → TSpot
  Done : LineTree → TSpot

abbrev pub begin_tree : TGoal → Option TSpot
begin_tree goal = Some (InExpr goal begun_tree)

abbrev pub keyword_tree : Option Keyword → Option TSpot
keyword_tree None = None
keyword_tree (Some k.Alphabet) = Some AtAlphabet
keyword_tree (Some k.Group) = Some (Done GroupLine)
keyword_tree (Some k.Let) = Some AtLetName
keyword_tree (Some k.Show) = begin_tree ForShow
keyword_tree (Some k.States) = begin_tree ForStates
keyword_tree (Some k.Wreath) = begin_tree ForWreath
keyword_tree (Some k.Class) = begin_tree ForClass
keyword_tree (Some k.Eq) = begin_tree ForFirst
keyword_tree (Some k.Act) = begin_tree ForAct
keyword_tree (Some k.Ray) = begin_tree ForRay
keyword_tree (Some k.Order) = begin_tree ForOrder
keyword_tree (Some k.Nucleus) = begin_tree (ForNucleus None)

abbrev pub fresh_tree : TGoal → TStep → Option TSpot
fresh_tree goal (Next reader) = Some (InExpr goal reader)
fresh_tree goal (Ends expr) = None
fresh_tree goal Stuck = None

abbrev pub join_exprs : Option ExprsTree → ExprTree → ExprsTree
join_exprs None expr = OneExpr expr
join_exprs (Some exprs) expr = MoreExprs exprs expr

abbrev pub join_ray : Option (List ℕ) → List ℕ → RayTree
join_ray None period = Periodic period
join_ray (Some before) period = Eventually before period

abbrev pub follow_tree : TGoal → ExprTree → Lexeme → Option TSpot
follow_tree ForFirst expr token = fresh_tree (ForSecond expr) (step_tree begun_tree token)
follow_tree ForAct expr (Number text) = Some (Done (ActLine expr (Digits text)))
follow_tree ForAct expr (Sign m.Minus) = Some (Done (ActLine expr Empty))
follow_tree ForRay expr (Number text) = Some (AtRayOpen expr text)
follow_tree ForRay expr (Sign m.LeftParen) = Some (AtRayPeriod expr None)
follow_tree ForOrder expr (Number text) = Some (Done (OrderLine expr text))
follow_tree (ForNucleus exprs) expr (Sign m.Comma) = Some (InExpr (ForNucleus (Some (join_exprs exprs expr))) begun_tree)
follow_tree _ expr token = None

abbrev pub on_tree : TGoal → Lexeme → TStep → Option TSpot
on_tree goal token (Next reader) = Some (InExpr goal reader)
on_tree goal token (Ends expr) = follow_tree goal expr token
on_tree goal token Stuck = None

abbrev pub take_tree : TSpot → Lexeme → Option TSpot
take_tree AtKeyword (Name text) = keyword_tree (keyword_of text)
take_tree AtAlphabet (Number text) = Some (Done (AlphabetLine text))
take_tree AtLetName (Name name) = Some (AtLetEquals name)
take_tree (AtLetEquals name) (Sign m.Equals) = begin_tree (ForLet name)
take_tree (InExpr goal reader) token = on_tree goal token (step_tree reader token)
take_tree (AtRayOpen expr before) (Sign m.LeftParen) = Some (AtRayPeriod expr (Some before))
take_tree (AtRayPeriod expr before) (Number period) = Some (AtRayClose expr before period)
take_tree (AtRayClose expr before period) (Sign m.RightParen) = Some (Done (RayLine expr (join_ray before period)))
take_tree _ token = None

abbrev pub finish_place_tree : List TFrame → TPlace → Option ExprTree
finish_place_tree [] (AtEnd before factor) = Some (join before factor)
finish_place_tree _ _ = None

abbrev pub finish_reader_tree : TReader → Option ExprTree
finish_reader_tree reader = finish_place_tree reader.frames reader.place

abbrev pub ended_tree : TGoal → Option ExprTree → Option LineTree
ended_tree goal None = None
ended_tree (ForLet name) (Some expr) = Some (LetLine name expr)
ended_tree ForShow (Some expr) = Some (ShowLine expr)
ended_tree ForStates (Some expr) = Some (StatesLine expr)
ended_tree ForWreath (Some expr) = Some (WreathLine expr)
ended_tree ForClass (Some expr) = Some (ClassLine expr)
ended_tree (ForSecond left) (Some expr) = Some (EqLine left expr)
ended_tree (ForNucleus exprs) (Some expr) = Some (NucleusLine (join_exprs exprs expr))
ended_tree _ (Some expr) = None

abbrev pub finish_tree : TSpot → Option LineTree
finish_tree (Done line) = Some line
finish_tree (InExpr goal reader) = ended_tree goal (finish_reader_tree reader)
finish_tree _ = None

abbrev pub spell_before_ray : Option (List ℕ) → List Lexeme → List Lexeme
spell_before_ray None rest = rest
spell_before_ray (Some text) rest = Number text ∷ rest

abbrev pub spell_goal : TGoal → List Lexeme → List Lexeme
spell_goal (ForLet name) rest = word k.Let ∷ Name name ∷ Sign m.Equals ∷ rest
spell_goal ForShow rest = word k.Show ∷ rest
spell_goal ForStates rest = word k.States ∷ rest
spell_goal ForWreath rest = word k.Wreath ∷ rest
spell_goal ForClass rest = word k.Class ∷ rest
spell_goal ForFirst rest = word k.Eq ∷ rest
spell_goal (ForSecond left) rest = word k.Eq ∷ spell_expr left rest
spell_goal ForAct rest = word k.Act ∷ rest
spell_goal ForRay rest = word k.Ray ∷ rest
spell_goal ForOrder rest = word k.Order ∷ rest
spell_goal (ForNucleus None) rest = word k.Nucleus ∷ rest
spell_goal (ForNucleus (Some exprs)) rest = word k.Nucleus ∷ spell_exprs exprs (Sign m.Comma ∷ rest)

abbrev pub spell_spot : TSpot → List Lexeme → List Lexeme
spell_spot AtKeyword rest = rest
spell_spot AtAlphabet rest = word k.Alphabet ∷ rest
spell_spot AtLetName rest = word k.Let ∷ rest
spell_spot (AtLetEquals name) rest = word k.Let ∷ Name name ∷ rest
spell_spot (InExpr goal reader) rest = spell_goal goal (spell_reader reader rest)
spell_spot (AtRayOpen expr before) rest = word k.Ray ∷ spell_expr expr (Number before ∷ rest)
spell_spot (AtRayPeriod expr before) rest = word k.Ray ∷ spell_expr expr (spell_before_ray before (Sign m.LeftParen ∷ rest))
spell_spot (AtRayClose expr before period) rest = word k.Ray ∷ spell_expr expr (spell_before_ray before (Sign m.LeftParen ∷ Number period ∷ rest))
spell_spot (Done line) rest = spell_line line rest
