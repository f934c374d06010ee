-- The reader of lines over trees is exact for the grammar of lines.
use Rattle.std.proofs.Common.{◌≡◌, ℕ, Bool, true, false, List, [], ◌∷◌, Option, Some, None, refl, ap, ◌∙◌, cond, subst}
use Rattle.std.proofs.lemmas.Slice.Eq.{bytes_eq-Decides}
use Rattle.std.specs.Str.{bytes_eq}
use Rattle.std.proofs.lemmas.Option.{same_Some}
use Rattle.fr_syntax.specs.declared.token.Mark.TheVariants as m
use Rattle.fr_syntax.specs.declared.keyword.Keyword.{Keyword}
use Rattle.fr_syntax.specs.declared.keyword.Keyword.TheVariants as k
use Rattle.fr_syntax.specs.Tokens.{Lexeme, Name, Number, Sign}
use Rattle.fr_syntax.specs.Keywords.{keyword_of, first_spelled}
use Rattle.fr_syntax.specs.Grammar.{WordTree, Empty, Digits, ExprTree, Only, Times, FactorTree, Plain, With, AtomTree, One, Simple, Named, Paren, Comm, RayTree, Periodic, Eventually, ExprsTree, OneExpr, MoreExprs, LineTree, AlphabetLine, GroupLine, LetLine, ShowLine, StatesLine, WreathLine, ClassLine, EqLine, ActLine, RayLine, OrderLine, NucleusLine, one, spelling, spell_word, spell_expr, spell_factor, spell_exprs, spell_ray, line_tokens, word}
use Rattle.fr_syntax.proofs.Zipper.{TReader, TStep, Next, Ends, Stuck, TFrame, TPlace, AtEnd, step_tree, begun_tree, spell_reader}
use Rattle.fr_syntax.proofs.ZipperLaws.{took, Took, Goes, at, after_expr, reads_expr, completes}
use Rattle.fr_syntax.proofs.LineZipper.{TGoal, ForLet, ForShow, ForStates, ForWreath, ForClass, ForFirst, ForSecond, ForAct, ForRay, ForOrder, ForNucleus, TSpot, AtKeyword, AtAlphabet, AtLetName, AtLetEquals, InExpr, AtRayOpen, AtRayPeriod, AtRayClose, Done, keyword_tree, fresh_tree, join_exprs, follow_tree, on_tree, take_tree, finish_place_tree, finish_reader_tree, ended_tree, finish_tree, spell_goal, spell_spot}
use Rattle.fr_syntax.proofs.Runs.{run, then_run, Exact}

first_spelled-spelling : (text : List ℕ) (keywords : List Keyword) (keyword : Keyword) →
    first_spelled text keywords ≡ Some keyword → text ≡ spelling keyword
first_spelled-spelling text [] keyword h = cc
first_spelled-spelling text (other ∷ keywords) keyword h =
    by_test (bytes_eq text (spelling other)) refl h (first_spelled-spelling text keywords keyword)
  where
    by_test : (b : Bool) → bytes_eq text (spelling other) ≡ b → cond b (Some other) (first_spelled text keywords) ≡ Some keyword →
        (first_spelled text keywords ≡ Some keyword → text ≡ spelling keyword) → text ≡ spelling keyword
    by_test true e g later = (bytes_eq-Decides text (spelling other)).0 e ∙ ap spelling (same_Some other keyword g)
    by_test false e g later = later g

-- a first word is written in one way
pub keyword-text : (text : List ℕ) (keyword : Keyword) → keyword_of text ≡ Some keyword → text ≡ spelling keyword
unfolding keyword_of
keyword-text text keyword h =
    first_spelled-spelling text (k.Alphabet ∷ k.Group ∷ k.Let ∷ k.Show ∷ k.States ∷ k.Wreath ∷ k.Class ∷ k.Eq ∷ k.Act ∷ k.Ray ∷ k.Order ∷ k.Nucleus ∷ []) keyword h

-- what a step of the line says of the token that it took
abbrev pub Grew : Option TSpot → (List Lexeme → List Lexeme) → Lexeme → Type 0
Grew None spelled token = Unit {0}
Grew (Some next) spelled token = (rest : List Lexeme) → spelled (token ∷ rest) ≡ spell_spot next rest

grew_keyword : (text : List ℕ) (found : Option Keyword) → keyword_of text ≡ found → Grew (keyword_tree found) (λ rest. rest) (Name text)
grew_keyword text None h = tt
grew_keyword text (Some k.Alphabet) h = λ rest. ap (λ t. Name t ∷ rest) (keyword-text text _ h)
grew_keyword text (Some k.Group) h = λ rest. ap (λ t. Name t ∷ rest) (keyword-text text _ h)
grew_keyword text (Some k.Let) h = λ rest. ap (λ t. Name t ∷ rest) (keyword-text text _ h)
grew_keyword text (Some k.Show) h = λ rest. ap (λ t. Name t ∷ rest) (keyword-text text _ h)
grew_keyword text (Some k.States) h = λ rest. ap (λ t. Name t ∷ rest) (keyword-text text _ h)
grew_keyword text (Some k.Wreath) h = λ rest. ap (λ t. Name t ∷ rest) (keyword-text text _ h)
grew_keyword text (Some k.Class) h = λ rest. ap (λ t. Name t ∷ rest) (keyword-text text _ h)
grew_keyword text (Some k.Eq) h = λ rest. ap (λ t. Name t ∷ rest) (keyword-text text _ h)
grew_keyword text (Some k.Act) h = λ rest. ap (λ t. Name t ∷ rest) (keyword-text text _ h)
grew_keyword text (Some k.Ray) h = λ rest. ap (λ t. Name t ∷ rest) (keyword-text text _ h)
grew_keyword text (Some k.Order) h = λ rest. ap (λ t. Name t ∷ rest) (keyword-text text _ h)
grew_keyword text (Some k.Nucleus) h = λ rest. ap (λ t. Name t ∷ rest) (keyword-text text _ h)

grew_fresh : (left : ExprTree) (token : Lexeme) (after : TStep) → Took after (λ rest. rest) token →
    Grew (fresh_tree (ForSecond left) after) (λ rest. word k.Eq ∷ spell_expr left rest) token
grew_fresh left token (Next reader) h = λ rest. ap (λ r. word k.Eq ∷ spell_expr left r) (h rest)
grew_fresh left token (Ends expr) h = tt
grew_fresh left token Stuck h = tt

-- a token after an expression, with what was read up to its end
grew_follow : (goal : TGoal) (expr : ExprTree) (token : Lexeme) → Grew (follow_tree goal expr token) (λ rest. spell_goal goal (spell_expr expr rest)) token
grew_follow ForFirst expr token = grew_fresh expr token (step_tree begun_tree token) (took begun_tree token)
grew_follow ForAct expr (Number text) = λ rest. refl
grew_follow ForAct expr (Sign m.Minus) = λ rest. refl
grew_follow ForRay expr (Number text) = λ rest. refl
grew_follow ForRay expr (Sign m.LeftParen) = λ rest. refl
grew_follow ForOrder expr (Number text) = λ rest. refl
grew_follow (ForNucleus None) expr (Sign m.Comma) = λ rest. refl
grew_follow (ForNucleus (Some exprs)) expr (Sign m.Comma) = λ rest. refl
grew_follow _ expr token = tt

same_front : (goal : TGoal) (token : Lexeme) (after : Option TSpot) (f g : List Lexeme → List Lexeme) → ((rest : List Lexeme) → f rest ≡ g rest) →
    Grew after g token → Grew after f token
same_front goal token None f g e h = tt
same_front goal token (Some next) f g e h = λ rest. e (token ∷ rest) ∙ h rest

grew_expr : (goal : TGoal) (reader : TReader) (token : Lexeme) (after : TStep) → Took after (spell_reader reader) token →
    Grew (on_tree goal token after) (λ rest. spell_goal goal (spell_reader reader rest)) token
grew_expr goal reader token (Next next) h = λ rest. ap (spell_goal goal) (h rest)
grew_expr goal reader token (Ends expr) h =
    same_front goal token (follow_tree goal expr token) _ (λ rest. spell_goal goal (spell_expr expr rest)) (λ rest. ap (spell_goal goal) (h rest)) (grew_follow goal expr token)
grew_expr goal reader token Stuck h = tt

grew : (spot : TSpot) (token : Lexeme) → Grew (take_tree spot token) (spell_spot spot) token
grew AtKeyword (Name text) = grew_keyword text (keyword_of text) refl
grew AtAlphabet (Number text) = λ rest. refl
grew AtLetName (Name name) = λ rest. refl
grew (AtLetEquals name) (Sign m.Equals) = λ rest. refl
grew (InExpr goal reader) token = grew_expr goal reader token (step_tree reader token) (took reader token)
grew (AtRayOpen expr before) (Sign m.LeftParen) = λ rest. refl
grew (AtRayPeriod expr before) (Number period) = λ rest. refl
grew (AtRayClose expr None period) (Sign m.RightParen) = λ rest. refl
grew (AtRayClose expr (Some before) period) (Sign m.RightParen) = λ rest. refl
grew _ token = tt

pub steps : (spot next : TSpot) (token : Lexeme) (rest : List Lexeme) → take_tree spot token ≡ Some next → spell_spot spot (token ∷ rest) ≡ spell_spot next rest
steps spot next token rest h = (let P : Option TSpot → Type 0 = λ after. Grew after (spell_spot spot) token in subst P h (grew spot token)) rest

-- what the end of the line says of the tokens that were read
abbrev pub Ended : Option LineTree → List Lexeme → Type 0
Ended None tokens = Unit {0}
Ended (Some line) tokens = tokens ≡ line_tokens line

ended_goal : (goal : TGoal) (expr : ExprTree) → Ended (ended_tree goal (Some expr)) (spell_goal goal (spell_expr expr []))
ended_goal (ForLet name) expr = refl
ended_goal ForShow expr = refl
ended_goal ForStates expr = refl
ended_goal ForWreath expr = refl
ended_goal ForClass expr = refl
ended_goal (ForSecond left) expr = refl
ended_goal (ForNucleus None) expr = refl
ended_goal (ForNucleus (Some exprs)) expr = refl
ended_goal _ expr = tt

ended_place : (goal : TGoal) (frames : List TFrame) (place : TPlace) →
    Ended (ended_tree goal (finish_place_tree frames place)) (spell_goal goal (spell_reader (at frames place) []))
ended_place goal [] (AtEnd None factor) = ended_goal goal (Only factor)
ended_place goal [] (AtEnd (Some expr) factor) = ended_goal goal (Times expr factor)
ended_place goal _ _ = tt

ended : (spot : TSpot) → Ended (finish_tree spot) (spell_spot spot [])
ended (Done line) = refl
ended (InExpr goal reader) = ended_place goal reader.frames reader.place
ended _ = tt

pub finishes : (spot : TSpot) (line : LineTree) → finish_tree spot ≡ Some line → spell_spot spot [] ≡ line_tokens line
finishes spot line h = let P : Option LineTree → Type 0 = λ found. Ended found (spell_spot spot []) in subst P h (ended spot)

-- each tree is read
abbrev pub read_line : TSpot → List Lexeme → Option TSpot
read_line = run take_tree

goes : (goal : TGoal) → Goes (λ reader rest. read_line (InExpr goal reader) rest)
goes goal reader next token rest h = ap (λ after. then_run (λ spot. read_line spot rest) (on_tree goal token after)) h

reads_in : (goal : TGoal) (expr : ExprTree) (rest : List Lexeme) →
    read_line (InExpr goal begun_tree) (spell_expr expr rest) ≡ read_line (InExpr goal (after_expr [] expr)) rest
reads_in goal expr rest = reads_expr (λ reader more. read_line (InExpr goal reader) more) (goes goal) expr [] rest

-- two readers that do the same with each token that begins an expression do the same with each expression
record SameOnFirst {A : Type 0} (f g : List Lexeme → A) : Type 0 where
  on_name : (name : List ℕ) (rest : List Lexeme) → f (Name name ∷ rest) ≡ g (Name name ∷ rest)
  on_one : (rest : List Lexeme) → f (one ∷ rest) ≡ g (one ∷ rest)
  on_paren : (rest : List Lexeme) → f (Sign m.LeftParen ∷ rest) ≡ g (Sign m.LeftParen ∷ rest)
  on_square : (rest : List Lexeme) → f (Sign m.LeftBracket ∷ rest) ≡ g (Sign m.LeftBracket ∷ rest)

same_on_atom : {A : Type 0} {f g : List Lexeme → A} → SameOnFirst f g → (atom : AtomTree) (rest : List Lexeme) → f (spell_factor (Plain atom) rest) ≡ g (spell_factor (Plain atom) rest)
same_on_atom same One rest = same.on_one rest
same_on_atom same (Simple (Named name)) rest = same.on_name name rest
same_on_atom same (Simple (Paren expr)) rest = same.on_paren _
same_on_atom same (Simple (Comm left right)) rest = same.on_square _

same_on_factor : {A : Type 0} {f g : List Lexeme → A} → SameOnFirst f g → (factor : FactorTree) (rest : List Lexeme) → f (spell_factor factor rest) ≡ g (spell_factor factor rest)
same_on_factor same (Plain atom) rest = same_on_atom same atom rest
same_on_factor same (With factor op) rest = same_on_factor same factor _

same_on_expr : {A : Type 0} {f g : List Lexeme → A} → SameOnFirst f g → (expr : ExprTree) (rest : List Lexeme) → f (spell_expr expr rest) ≡ g (spell_expr expr rest)
same_on_expr same (Only factor) rest = same_on_factor same factor rest
same_on_expr same (Times expr factor) rest = same_on_expr same expr _

second_begins : (left : ExprTree) → SameOnFirst (read_line (InExpr ForFirst (after_expr [] left))) (read_line (InExpr (ForSecond left) begun_tree))
second_begins (Only factor) = record { on_name = λ name rest. refl; on_one = λ rest. refl; on_paren = λ rest. refl; on_square = λ rest. refl }
second_begins (Times expr factor) = record { on_name = λ name rest. refl; on_one = λ rest. refl; on_paren = λ rest. refl; on_square = λ rest. refl }

reads_word : (expr : ExprTree) (w : WordTree) (rest : List Lexeme) →
    read_line (InExpr ForAct (after_expr [] expr)) (spell_word w rest) ≡ read_line (Done (ActLine expr w)) rest
reads_word (Only factor) Empty rest = refl
reads_word (Only factor) (Digits text) rest = refl
reads_word (Times expr factor) Empty rest = refl
reads_word (Times expr factor) (Digits text) rest = refl

reads_ray : (expr : ExprTree) (ray : RayTree) (rest : List Lexeme) →
    read_line (InExpr ForRay (after_expr [] expr)) (spell_ray ray rest) ≡ read_line (Done (RayLine expr ray)) rest
reads_ray (Only factor) (Periodic period) rest = refl
reads_ray (Only factor) (Eventually before period) rest = refl
reads_ray (Times expr factor) (Periodic period) rest = refl
reads_ray (Times expr factor) (Eventually before period) rest = refl

reads_order : (expr : ExprTree) (text : List ℕ) (rest : List Lexeme) →
    read_line (InExpr ForOrder (after_expr [] expr)) (Number text ∷ rest) ≡ read_line (Done (OrderLine expr text)) rest
reads_order (Only factor) text rest = refl
reads_order (Times expr factor) text rest = refl

abbrev pub exprs_end : ExprsTree → TSpot
exprs_end (OneExpr expr) = InExpr (ForNucleus None) (after_expr [] expr)
exprs_end (MoreExprs exprs expr) = InExpr (ForNucleus (Some exprs)) (after_expr [] expr)

comma_after_exprs : (exprs : ExprsTree) (rest : List Lexeme) →
    read_line (exprs_end exprs) (Sign m.Comma ∷ rest) ≡ read_line (InExpr (ForNucleus (Some exprs)) begun_tree) rest
comma_after_exprs (OneExpr (Only factor)) rest = refl
comma_after_exprs (OneExpr (Times expr factor)) rest = refl
comma_after_exprs (MoreExprs exprs (Only factor)) rest = refl
comma_after_exprs (MoreExprs exprs (Times expr factor)) rest = refl

reads_exprs : (exprs : ExprsTree) (rest : List Lexeme) →
    read_line (InExpr (ForNucleus None) begun_tree) (spell_exprs exprs rest) ≡ read_line (exprs_end exprs) rest
reads_exprs (OneExpr expr) rest = reads_in (ForNucleus None) expr rest
reads_exprs (MoreExprs exprs expr) rest =
    reads_exprs exprs (Sign m.Comma ∷ spell_expr expr rest)
    ∙ comma_after_exprs exprs (spell_expr expr rest)
    ∙ reads_in (ForNucleus (Some exprs)) expr rest

-- where a line ends
abbrev pub line_end : LineTree → TSpot
line_end (LetLine name expr) = InExpr (ForLet name) (after_expr [] expr)
line_end (ShowLine expr) = InExpr ForShow (after_expr [] expr)
line_end (StatesLine expr) = InExpr ForStates (after_expr [] expr)
line_end (WreathLine expr) = InExpr ForWreath (after_expr [] expr)
line_end (ClassLine expr) = InExpr ForClass (after_expr [] expr)
line_end (EqLine left right) = InExpr (ForSecond left) (after_expr [] right)
line_end (NucleusLine exprs) = exprs_end exprs
line_end line = Done line

pub reads_line : (line : LineTree) → read_line AtKeyword (line_tokens line) ≡ Some (line_end line)
unfolding keyword_of
reads_line (AlphabetLine text) = refl
reads_line GroupLine = refl
reads_line (LetLine name expr) = reads_in (ForLet name) expr []
reads_line (ShowLine expr) = reads_in ForShow expr []
reads_line (StatesLine expr) = reads_in ForStates expr []
reads_line (WreathLine expr) = reads_in ForWreath expr []
reads_line (ClassLine expr) = reads_in ForClass expr []
reads_line (EqLine left right) =
    reads_in ForFirst left (spell_expr right []) ∙ same_on_expr (second_begins left) right [] ∙ reads_in (ForSecond left) right []
reads_line (ActLine expr w) = reads_in ForAct expr (spell_word w []) ∙ reads_word expr w []
reads_line (RayLine expr ray) = reads_in ForRay expr (spell_ray ray []) ∙ reads_ray expr ray []
reads_line (OrderLine expr text) = reads_in ForOrder expr (Number text ∷ []) ∙ reads_order expr text []
reads_line (NucleusLine exprs) = reads_exprs exprs []

finish_expr : (expr : ExprTree) → finish_reader_tree (after_expr [] expr) ≡ Some expr
finish_expr (Only factor) = refl
finish_expr (Times expr factor) = refl

finish_exprs : (exprs : ExprsTree) → finish_tree (exprs_end exprs) ≡ Some (NucleusLine exprs)
finish_exprs (OneExpr expr) = ap (ended_tree (ForNucleus None)) (finish_expr expr)
finish_exprs (MoreExprs exprs expr) = ap (ended_tree (ForNucleus (Some exprs))) (finish_expr expr)

pub finish_line : (line : LineTree) → finish_tree (line_end line) ≡ Some line
finish_line (AlphabetLine text) = refl
finish_line GroupLine = refl
finish_line (LetLine name expr) = ap (ended_tree (ForLet name)) (finish_expr expr)
finish_line (ShowLine expr) = ap (ended_tree ForShow) (finish_expr expr)
finish_line (StatesLine expr) = ap (ended_tree ForStates) (finish_expr expr)
finish_line (WreathLine expr) = ap (ended_tree ForWreath) (finish_expr expr)
finish_line (ClassLine expr) = ap (ended_tree ForClass) (finish_expr expr)
finish_line (EqLine left right) = ap (ended_tree (ForSecond left)) (finish_expr right)
finish_line (ActLine expr w) = refl
finish_line (RayLine expr ray) = refl
finish_line (OrderLine expr text) = refl
finish_line (NucleusLine exprs) = finish_exprs exprs

-- what was read can be completed
abbrev pub after_goal : TGoal → List Lexeme
after_goal ForFirst = one ∷ []
after_goal ForAct = Sign m.Minus ∷ []
after_goal ForRay = Sign m.LeftParen ∷ one ∷ Sign m.RightParen ∷ []
after_goal ForOrder = one ∷ []
after_goal _ = []

abbrev pub goal_line : TGoal → ExprTree → LineTree
goal_line (ForLet name) expr = LetLine name expr
goal_line ForShow expr = ShowLine expr
goal_line ForStates expr = StatesLine expr
goal_line ForWreath expr = WreathLine expr
goal_line ForClass expr = ClassLine expr
goal_line ForFirst expr = EqLine expr (Only (Plain One))
goal_line (ForSecond left) expr = EqLine left expr
goal_line ForAct expr = ActLine expr Empty
goal_line ForRay expr = RayLine expr (Periodic (49 ∷ []))
goal_line ForOrder expr = OrderLine expr (49 ∷ [])
goal_line (ForNucleus exprs) expr = NucleusLine (join_exprs exprs expr)

goal_spelled : (goal : TGoal) (expr : ExprTree) → spell_goal goal (spell_expr expr (after_goal goal)) ≡ line_tokens (goal_line goal expr)
goal_spelled (ForLet name) expr = refl
goal_spelled ForShow expr = refl
goal_spelled ForStates expr = refl
goal_spelled ForWreath expr = refl
goal_spelled ForClass expr = refl
goal_spelled ForFirst expr = refl
goal_spelled (ForSecond left) expr = refl
goal_spelled ForAct expr = refl
goal_spelled ForRay expr = refl
goal_spelled ForOrder expr = refl
goal_spelled (ForNucleus None) expr = refl
goal_spelled (ForNucleus (Some exprs)) expr = refl

completes_expr : (goal : TGoal) (reader : TReader) → (line : LineTree) × (more : List Lexeme) × (spell_goal goal (spell_reader reader more) ≡ line_tokens line)
completes_expr goal reader =
    let inner = completes reader (after_goal goal) in
    (goal_line goal inner.0, inner.1, ap (spell_goal goal) inner.2 ∙ goal_spelled goal inner.0)

pub completes_line : (spot : TSpot) → (line : LineTree) × (more : List Lexeme) × (spell_spot spot more ≡ line_tokens line)
completes_line AtKeyword = (GroupLine, word k.Group ∷ [], refl)
completes_line AtAlphabet = (AlphabetLine (49 ∷ []), one ∷ [], refl)
completes_line AtLetName = (LetLine (97 ∷ []) (Only (Plain One)), Name (97 ∷ []) ∷ Sign m.Equals ∷ one ∷ [], refl)
completes_line (AtLetEquals name) = (LetLine name (Only (Plain One)), Sign m.Equals ∷ one ∷ [], refl)
completes_line (InExpr goal reader) = completes_expr goal reader
completes_line (AtRayOpen expr before) =
    (RayLine expr (Eventually before (49 ∷ [])), Sign m.LeftParen ∷ one ∷ Sign m.RightParen ∷ [], refl)
completes_line (AtRayPeriod expr None) = (RayLine expr (Periodic (49 ∷ [])), one ∷ Sign m.RightParen ∷ [], refl)
completes_line (AtRayPeriod expr (Some before)) = (RayLine expr (Eventually before (49 ∷ [])), one ∷ Sign m.RightParen ∷ [], refl)
completes_line (AtRayClose expr None period) = (RayLine expr (Periodic period), Sign m.RightParen ∷ [], refl)
completes_line (AtRayClose expr (Some before) period) = (RayLine expr (Eventually before period), Sign m.RightParen ∷ [], refl)
completes_line (Done line) = (line, [], refl)

abbrev pub exact_lines : Exact LineTree TSpot
exact_lines = record {
  tokens_of = line_tokens;
  start = AtKeyword;
  step = take_tree;
  finish = finish_tree;
  spelled = spell_spot;
  starts = λ rest. refl;
  steps = steps;
  finishes = finishes;
  reads = λ line. (line_end line, reads_line line, finish_line line);
  completes = completes_line;
}
