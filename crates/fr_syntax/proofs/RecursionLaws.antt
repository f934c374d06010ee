-- What was read of a line inside a block, as trees: the reader is exact for the grammar.
use Rattle.std.proofs.Common.{◌≡◌, ℕ, Bool, true, false, cond, List, [], ◌∷◌, Option, Some, None, refl, ap, ◌∙◌, subst}
use Rattle.fr_syntax.specs.declared.token.Mark.TheVariants as m
use Rattle.fr_syntax.specs.Tokens.{Lexeme, Name, Number, Sign}
use Rattle.fr_syntax.specs.Steps.{is_one}
use Rattle.fr_syntax.specs.Grammar.{one}
use Rattle.fr_syntax.specs.Recursions.{SecNameTree, Forward, Inverse, SecWordTree, OneName, MoreNames, SecTree, Trivial, Names, SecsTree, OneSec, MoreSecs, NumbersTree, OneNumber, MoreNumbers, CycleListTree, OneCycle, MoreCycles, CyclesTree, NoCycles, Cycles, RecursionTree, WithSections, WithBoth, WithCycles, spell_secname, spell_secword, spell_sec, spell_secs, spell_numbers, spell_cycle_list, spell_cycles, recursion_tokens}
use Rattle.fr_syntax.proofs.ZipperLaws.{one-text}
use Rattle.fr_syntax.proofs.Runs.{run, Exact}

pub data THead : Type 0 where
  Bare : List ℕ → THead
  Sectioned : List ℕ → SecsTree → THead

pub data TSpot : Type 0 where
  AtName : TSpot
  AtEquals : List ℕ → TSpot
  AtBody : List ℕ → TSpot
  AtSection : List ℕ → Option SecsTree → TSpot
  AfterOne : List ℕ → Option SecsTree → TSpot
  AfterName : List ℕ → Option SecsTree → Option SecWordTree → List ℕ → TSpot
  AtMinus : List ℕ → Option SecsTree → Option SecWordTree → List ℕ → TSpot
  AtInverseOne : List ℕ → Option SecsTree → Option SecWordTree → List ℕ → TSpot
  AfterWord : List ℕ → Option SecsTree → SecWordTree → TSpot
  AtNextName : List ℕ → Option SecsTree → SecWordTree → TSpot
  AfterSections : List ℕ → SecsTree → TSpot
  AtFirst : THead → TSpot
  AtNumber : THead → Option CycleListTree → Option NumbersTree → TSpot
  AfterNumber : THead → Option CycleListTree → NumbersTree → TSpot
  AfterCycle : THead → CycleListTree → TSpot
  AfterEmpty : THead → TSpot

abbrev pub join_word : Option SecWordTree → SecNameTree → SecWordTree
join_word None name = OneName name
join_word (Some word) name = MoreNames word name

abbrev pub join_secs : Option SecsTree → SecTree → SecsTree
join_secs None sec = OneSec sec
join_secs (Some secs) sec = MoreSecs secs sec

abbrev pub join_numbers : Option NumbersTree → List ℕ → NumbersTree
join_numbers None text = OneNumber text
join_numbers (Some numbers) text = MoreNumbers numbers text

abbrev pub join_cycles : Option CycleListTree → NumbersTree → CycleListTree
join_cycles None numbers = OneCycle numbers
join_cycles (Some cycles) numbers = MoreCycles cycles numbers

abbrev pub end_sec : List ℕ → Option SecsTree → SecTree → Lexeme → Option TSpot
end_sec name secs sec (Sign m.Comma) = Some (AtSection name (Some (join_secs secs sec)))
end_sec name secs sec (Sign m.Greater) = Some (AfterSections name (join_secs secs sec))
end_sec name secs sec _ = None

abbrev pub end_word : List ℕ → Option SecsTree → SecWordTree → Lexeme → Option TSpot
end_word name secs word (Sign m.Star) = Some (AtNextName name secs word)
end_word name secs word token = end_sec name secs (Names word) token

abbrev pub end_name : List ℕ → Option SecsTree → Option SecWordTree → List ℕ → Lexeme → Option TSpot
end_name name secs word last (Sign m.Caret) = Some (AtMinus name secs word last)
end_name name secs word last token = end_word name secs (join_word word (Forward last)) token

abbrev pub take_tree : TSpot → Lexeme → Option TSpot
take_tree AtName (Name name) = Some (AtEquals name)
take_tree (AtEquals name) (Sign m.Equals) = Some (AtBody name)
take_tree (AtBody name) (Sign m.Less) = Some (AtSection name None)
take_tree (AtBody name) (Sign m.LeftParen) = Some (AtFirst (Bare name))
take_tree (AtSection name secs) (Name last) = Some (AfterName name secs None last)
take_tree (AtSection name secs) (Number text) = cond (is_one text) (Some (AfterOne name secs)) None
take_tree (AfterOne name secs) token = end_sec name secs Trivial token
take_tree (AfterName name secs word last) token = end_name name secs word last token
take_tree (AtMinus name secs word last) (Sign m.Minus) = Some (AtInverseOne name secs word last)
take_tree (AtInverseOne name secs word last) (Number text) = cond (is_one text) (Some (AfterWord name secs (join_word word (Inverse last)))) None
take_tree (AfterWord name secs word) token = end_word name secs word token
take_tree (AtNextName name secs word) (Name last) = Some (AfterName name secs (Some word) last)
take_tree (AfterSections name secs) (Sign m.LeftParen) = Some (AtFirst (Sectioned name secs))
take_tree (AtFirst head) (Number text) = Some (AfterNumber head None (OneNumber text))
take_tree (AtFirst head) (Sign m.RightParen) = Some (AfterEmpty head)
take_tree (AtNumber head cycles numbers) (Number text) = Some (AfterNumber head cycles (join_numbers numbers text))
take_tree (AfterNumber head cycles numbers) (Sign m.Comma) = Some (AtNumber head cycles (Some numbers))
take_tree (AfterNumber head cycles numbers) (Sign m.RightParen) = Some (AfterCycle head (join_cycles cycles numbers))
take_tree (AfterCycle head cycles) (Sign m.LeftParen) = Some (AtNumber head (Some cycles) None)
take_tree _ token = None

abbrev pub with_cycles : THead → CyclesTree → RecursionTree
with_cycles (Bare name) cycles = WithCycles name cycles
with_cycles (Sectioned name secs) cycles = WithBoth name secs cycles

abbrev pub finish_tree : TSpot → Option RecursionTree
finish_tree (AfterSections name secs) = Some (WithSections name secs)
finish_tree (AfterCycle head cycles) = Some (with_cycles head (Cycles cycles))
finish_tree (AfterEmpty head) = Some (with_cycles head NoCycles)
finish_tree _ = None

-- the tokens that were read, and then the rest
abbrev pub spell_before_secs : Option SecsTree → List Lexeme → List Lexeme
spell_before_secs None rest = rest
spell_before_secs (Some secs) rest = spell_secs secs (Sign m.Comma ∷ rest)

abbrev pub spell_opened : List ℕ → Option SecsTree → List Lexeme → List Lexeme
spell_opened name secs rest = Name name ∷ Sign m.Equals ∷ Sign m.Less ∷ spell_before_secs secs rest

abbrev pub spell_before_word : Option SecWordTree → List Lexeme → List Lexeme
spell_before_word None rest = rest
spell_before_word (Some word) rest = spell_secword word (Sign m.Star ∷ rest)

abbrev pub spell_head : THead → List Lexeme → List Lexeme
spell_head (Bare name) rest = Name name ∷ Sign m.Equals ∷ rest
spell_head (Sectioned name secs) rest = Name name ∷ Sign m.Equals ∷ Sign m.Less ∷ spell_secs secs (Sign m.Greater ∷ rest)

abbrev pub spell_before_cycle : Option CycleListTree → List Lexeme → List Lexeme
spell_before_cycle None rest = rest
spell_before_cycle (Some cycles) rest = spell_cycle_list cycles rest

abbrev pub spell_before_number : Option NumbersTree → List Lexeme → List Lexeme
spell_before_number None rest = rest
spell_before_number (Some numbers) rest = spell_numbers numbers (Sign m.Comma ∷ rest)

abbrev pub spell_spot : TSpot → List Lexeme → List Lexeme
spell_spot AtName rest = rest
spell_spot (AtEquals name) rest = Name name ∷ rest
spell_spot (AtBody name) rest = Name name ∷ Sign m.Equals ∷ rest
spell_spot (AtSection name secs) rest = spell_opened name secs rest
spell_spot (AfterOne name secs) rest = spell_opened name secs (one ∷ rest)
spell_spot (AfterName name secs word last) rest = spell_opened name secs (spell_before_word word (Name last ∷ rest))
spell_spot (AtMinus name secs word last) rest = spell_opened name secs (spell_before_word word (Name last ∷ Sign m.Caret ∷ rest))
spell_spot (AtInverseOne name secs word last) rest = spell_opened name secs (spell_before_word word (Name last ∷ Sign m.Caret ∷ Sign m.Minus ∷ rest))
spell_spot (AfterWord name secs word) rest = spell_opened name secs (spell_secword word rest)
spell_spot (AtNextName name secs word) rest = spell_opened name secs (spell_secword word (Sign m.Star ∷ rest))
spell_spot (AfterSections name secs) rest = spell_head (Sectioned name secs) rest
spell_spot (AtFirst head) rest = spell_head head (Sign m.LeftParen ∷ rest)
spell_spot (AtNumber head cycles numbers) rest = spell_head head (spell_before_cycle cycles (Sign m.LeftParen ∷ spell_before_number numbers rest))
spell_spot (AfterNumber head cycles numbers) rest = spell_head head (spell_before_cycle cycles (Sign m.LeftParen ∷ spell_numbers numbers rest))
spell_spot (AfterCycle head cycles) rest = spell_head head (spell_cycle_list cycles rest)
spell_spot (AfterEmpty head) rest = spell_head head (Sign m.LeftParen ∷ Sign m.RightParen ∷ rest)

abbrev pub Grew : Option TSpot → (List Lexeme → List Lexeme) → Lexeme → Type 0
Grew None spelled token = Unit {0}
Grew (Some next) spelled token = (rest : List Lexeme) → spelled (token ∷ rest) ≡ spell_spot next rest

grew_sec : (name : List ℕ) (secs : Option SecsTree) (sec : SecTree) (token : Lexeme) →
    Grew (end_sec name secs sec token) (λ rest. spell_opened name secs (spell_sec sec rest)) token
grew_sec name None sec (Sign m.Comma) = λ rest. refl
grew_sec name (Some secs) sec (Sign m.Comma) = λ rest. refl
grew_sec name None sec (Sign m.Greater) = λ rest. refl
grew_sec name (Some secs) sec (Sign m.Greater) = λ rest. refl
grew_sec name secs sec _ = tt

grew_word : (name : List ℕ) (secs : Option SecsTree) (word : SecWordTree) (token : Lexeme) →
    Grew (end_word name secs word token) (λ rest. spell_opened name secs (spell_secword word rest)) token
grew_word name secs word (Sign m.Star) = λ rest. refl
grew_word name secs word token = grew_sec name secs (Names word) token

grew_name : (name : List ℕ) (secs : Option SecsTree) (word : Option SecWordTree) (last : List ℕ) (token : Lexeme) →
    Grew (end_name name secs word last token) (λ rest. spell_opened name secs (spell_before_word word (Name last ∷ rest))) token
grew_name name secs word last (Sign m.Caret) = λ rest. refl
grew_name name secs None last token = grew_word name secs (OneName (Forward last)) token
grew_name name secs (Some word) last token = grew_word name secs (MoreNames word (Forward last)) token

grew_one : (name : List ℕ) (secs : Option SecsTree) (text : List ℕ) (b : Bool) → is_one text ≡ b →
    Grew (cond b (Some (AfterOne name secs)) None) (λ rest. spell_opened name secs rest) (Number text)
grew_one name secs text true h = λ rest. ap (λ t. spell_opened name secs (Number t ∷ rest)) (one-text text h)
grew_one name secs text false h = tt

grew_inverse : (name : List ℕ) (secs : Option SecsTree) (word : Option SecWordTree) (last text : List ℕ) (b : Bool) → is_one text ≡ b →
    Grew (cond b (Some (AfterWord name secs (join_word word (Inverse last)))) None)
    (λ rest. spell_opened name secs (spell_before_word word (Name last ∷ Sign m.Caret ∷ Sign m.Minus ∷ rest))) (Number text)
grew_inverse name secs None last text true h = λ rest. ap (λ t. spell_opened name secs (Name last ∷ Sign m.Caret ∷ Sign m.Minus ∷ Number t ∷ rest)) (one-text text h)
grew_inverse name secs (Some word) last text true h =
    λ rest. ap (λ t. spell_opened name secs (spell_secword word (Sign m.Star ∷ Name last ∷ Sign m.Caret ∷ Sign m.Minus ∷ Number t ∷ rest))) (one-text text h)
grew_inverse name secs word last text false h = tt

grew : (spot : TSpot) (token : Lexeme) → Grew (take_tree spot token) (spell_spot spot) token
grew AtName (Name name) = λ rest. refl
grew (AtEquals name) (Sign m.Equals) = λ rest. refl
grew (AtBody name) (Sign m.Less) = λ rest. refl
grew (AtBody name) (Sign m.LeftParen) = λ rest. refl
grew (AtSection name secs) (Name last) = λ rest. refl
grew (AtSection name secs) (Number text) = grew_one name secs text (is_one text) refl
grew (AfterOne name secs) token = grew_sec name secs Trivial token
grew (AfterName name secs word last) token = grew_name name secs word last token
grew (AtMinus name secs word last) (Sign m.Minus) = λ rest. refl
grew (AtInverseOne name secs word last) (Number text) = grew_inverse name secs word last text (is_one text) refl
grew (AfterWord name secs word) token = grew_word name secs word token
grew (AtNextName name secs word) (Name last) = λ rest. refl
grew (AfterSections name secs) (Sign m.LeftParen) = λ rest. refl
grew (AtFirst head) (Number text) = λ rest. refl
grew (AtFirst head) (Sign m.RightParen) = λ rest. refl
grew (AtNumber head cycles None) (Number text) = λ rest. refl
grew (AtNumber head cycles (Some numbers)) (Number text) = λ rest. refl
grew (AfterNumber head cycles numbers) (Sign m.Comma) = λ rest. refl
grew (AfterNumber head None numbers) (Sign m.RightParen) = λ rest. refl
grew (AfterNumber head (Some cycles) numbers) (Sign m.RightParen) = λ rest. refl
grew (AfterCycle head cycles) (Sign m.LeftParen) = λ rest. refl
grew _ token = tt

pub steps : (spot next : TSpot) (token : Lexeme) (rest : List Lexeme) → take_tree spot token ≡ Some next → spell_spot spot (token ∷ rest) ≡ spell_spot next rest
steps spot next token rest h = (let P : Option TSpot → Type 0 = λ after. Grew after (spell_spot spot) token in subst P h (grew spot token)) rest

abbrev pub Ended : Option RecursionTree → List Lexeme → Type 0
Ended None tokens = Unit {0}
Ended (Some tree) tokens = tokens ≡ recursion_tokens tree

ended : (spot : TSpot) → Ended (finish_tree spot) (spell_spot spot [])
ended (AfterSections name secs) = refl
ended (AfterCycle (Bare name) cycles) = refl
ended (AfterCycle (Sectioned name secs) cycles) = refl
ended (AfterEmpty (Bare name)) = refl
ended (AfterEmpty (Sectioned name secs)) = refl
ended _ = tt

pub finishes : (spot : TSpot) (tree : RecursionTree) → finish_tree spot ≡ Some tree → spell_spot spot [] ≡ recursion_tokens tree
finishes spot tree h = let P : Option RecursionTree → Type 0 = λ found. Ended found (spell_spot spot []) in subst P h (ended spot)

abbrev pub read : TSpot → List Lexeme → Option TSpot
read = run take_tree

-- where a word of names ends
abbrev pub word_end : List ℕ → Option SecsTree → SecWordTree → TSpot
word_end name secs (OneName (Forward last)) = AfterName name secs None last
word_end name secs (OneName (Inverse last)) = AfterWord name secs (OneName (Inverse last))
word_end name secs (MoreNames word (Forward last)) = AfterName name secs (Some word) last
word_end name secs (MoreNames word (Inverse last)) = AfterWord name secs (MoreNames word (Inverse last))

star_after : (name : List ℕ) (secs : Option SecsTree) (word : SecWordTree) (rest : List Lexeme) →
    read (word_end name secs word) (Sign m.Star ∷ rest) ≡ read (AtNextName name secs word) rest
star_after name secs (OneName (Forward last)) rest = refl
star_after name secs (OneName (Inverse last)) rest = refl
star_after name secs (MoreNames word (Forward last)) rest = refl
star_after name secs (MoreNames word (Inverse last)) rest = refl

reads_next : (name : List ℕ) (secs : Option SecsTree) (word : SecWordTree) (last : SecNameTree) (rest : List Lexeme) →
    read (AtNextName name secs word) (spell_secname last rest) ≡ read (word_end name secs (MoreNames word last)) rest
unfolding is_one
reads_next name secs word (Forward last) rest = refl
reads_next name secs word (Inverse last) rest = refl

reads_first : (name : List ℕ) (secs : Option SecsTree) (last : SecNameTree) (rest : List Lexeme) →
    read (AtSection name secs) (spell_secname last rest) ≡ read (word_end name secs (OneName last)) rest
unfolding is_one
reads_first name secs (Forward last) rest = refl
reads_first name secs (Inverse last) rest = refl

reads_word : (name : List ℕ) (secs : Option SecsTree) (word : SecWordTree) (rest : List Lexeme) →
    read (AtSection name secs) (spell_secword word rest) ≡ read (word_end name secs word) rest
reads_word name secs (OneName last) rest = reads_first name secs last rest
reads_word name secs (MoreNames word last) rest =
    reads_word name secs word (Sign m.Star ∷ spell_secname last rest) ∙ star_after name secs word (spell_secname last rest) ∙ reads_next name secs word last rest

abbrev pub sec_end : List ℕ → Option SecsTree → SecTree → TSpot
sec_end name secs Trivial = AfterOne name secs
sec_end name secs (Names word) = word_end name secs word

reads_sec : (name : List ℕ) (secs : Option SecsTree) (sec : SecTree) (rest : List Lexeme) →
    read (AtSection name secs) (spell_sec sec rest) ≡ read (sec_end name secs sec) rest
unfolding is_one
reads_sec name secs Trivial rest = refl
reads_sec name secs (Names word) rest = reads_word name secs word rest

comma_after : (name : List ℕ) (secs : Option SecsTree) (sec : SecTree) (rest : List Lexeme) →
    read (sec_end name secs sec) (Sign m.Comma ∷ rest) ≡ read (AtSection name (Some (join_secs secs sec))) rest
comma_after name secs Trivial rest = refl
comma_after name secs (Names (OneName (Forward last))) rest = refl
comma_after name secs (Names (OneName (Inverse last))) rest = refl
comma_after name secs (Names (MoreNames word (Forward last))) rest = refl
comma_after name secs (Names (MoreNames word (Inverse last))) rest = refl

greater_after : (name : List ℕ) (secs : Option SecsTree) (sec : SecTree) (rest : List Lexeme) →
    read (sec_end name secs sec) (Sign m.Greater ∷ rest) ≡ read (AfterSections name (join_secs secs sec)) rest
greater_after name secs Trivial rest = refl
greater_after name secs (Names (OneName (Forward last))) rest = refl
greater_after name secs (Names (OneName (Inverse last))) rest = refl
greater_after name secs (Names (MoreNames word (Forward last))) rest = refl
greater_after name secs (Names (MoreNames word (Inverse last))) rest = refl

abbrev pub secs_end : List ℕ → SecsTree → TSpot
secs_end name (OneSec sec) = sec_end name None sec
secs_end name (MoreSecs secs sec) = sec_end name (Some secs) sec

comma_after_secs : (name : List ℕ) (secs : SecsTree) (rest : List Lexeme) → read (secs_end name secs) (Sign m.Comma ∷ rest) ≡ read (AtSection name (Some secs)) rest
comma_after_secs name (OneSec sec) rest = comma_after name None sec rest
comma_after_secs name (MoreSecs secs sec) rest = comma_after name (Some secs) sec rest

greater_after_secs : (name : List ℕ) (secs : SecsTree) (rest : List Lexeme) → read (secs_end name secs) (Sign m.Greater ∷ rest) ≡ read (AfterSections name secs) rest
greater_after_secs name (OneSec sec) rest = greater_after name None sec rest
greater_after_secs name (MoreSecs secs sec) rest = greater_after name (Some secs) sec rest

reads_secs : (name : List ℕ) (secs : SecsTree) (rest : List Lexeme) → read (AtSection name None) (spell_secs secs rest) ≡ read (secs_end name secs) rest
reads_secs name (OneSec sec) rest = reads_sec name None sec rest
reads_secs name (MoreSecs secs sec) rest =
    reads_secs name secs (Sign m.Comma ∷ spell_sec sec rest) ∙ comma_after_secs name secs (spell_sec sec rest) ∙ reads_sec name (Some secs) sec rest

reads_numbers : (head : THead) (cycles : Option CycleListTree) (numbers : NumbersTree) (rest : List Lexeme) →
    read (AtNumber head cycles None) (spell_numbers numbers rest) ≡ read (AfterNumber head cycles numbers) rest
reads_numbers head cycles (OneNumber text) rest = refl
reads_numbers head cycles (MoreNumbers numbers text) rest = reads_numbers head cycles numbers (Sign m.Comma ∷ Number text ∷ rest)

-- the first number of the first cycle is read as those of the others
reads_at_first : (head : THead) (numbers : NumbersTree) (rest : List Lexeme) →
    read (AtFirst head) (spell_numbers numbers rest) ≡ read (AtNumber head None None) (spell_numbers numbers rest)
reads_at_first head (OneNumber text) rest = refl
reads_at_first head (MoreNumbers numbers text) rest = reads_at_first head numbers (Sign m.Comma ∷ Number text ∷ rest)

reads_cycle_list : (head : THead) (cycles : CycleListTree) (rest : List Lexeme) (start : TSpot) →
    ((more : List Lexeme) → read start (Sign m.LeftParen ∷ more) ≡ read (AtFirst head) more) →
    read start (spell_cycle_list cycles rest) ≡ read (AfterCycle head cycles) rest
reads_cycle_list head (OneCycle numbers) rest start h =
    h (spell_numbers numbers (Sign m.RightParen ∷ rest)) ∙ reads_at_first head numbers (Sign m.RightParen ∷ rest) ∙ reads_numbers head None numbers (Sign m.RightParen ∷ rest)
reads_cycle_list head (MoreCycles cycles numbers) rest start h =
    reads_cycle_list head cycles (Sign m.LeftParen ∷ spell_numbers numbers (Sign m.RightParen ∷ rest)) start h
    ∙ reads_numbers head (Some cycles) numbers (Sign m.RightParen ∷ rest)

abbrev pub cycles_end : THead → CyclesTree → TSpot
cycles_end head NoCycles = AfterEmpty head
cycles_end head (Cycles cycles) = AfterCycle head cycles

reads_cycles : (head : THead) (cycles : CyclesTree) (rest : List Lexeme) (start : TSpot) →
    ((more : List Lexeme) → read start (Sign m.LeftParen ∷ more) ≡ read (AtFirst head) more) →
    read start (spell_cycles cycles rest) ≡ read (cycles_end head cycles) rest
reads_cycles head NoCycles rest start h = h (Sign m.RightParen ∷ rest)
reads_cycles head (Cycles cycles) rest start h = reads_cycle_list head cycles rest start h

abbrev pub tree_end : RecursionTree → TSpot
tree_end (WithSections name secs) = AfterSections name secs
tree_end (WithBoth name secs cycles) = cycles_end (Sectioned name secs) cycles
tree_end (WithCycles name cycles) = cycles_end (Bare name) cycles

pub reads_tree : (tree : RecursionTree) → read AtName (recursion_tokens tree) ≡ Some (tree_end tree)
reads_tree (WithSections name secs) = reads_secs name secs (Sign m.Greater ∷ []) ∙ greater_after_secs name secs []
reads_tree (WithBoth name secs cycles) =
    reads_secs name secs (Sign m.Greater ∷ spell_cycles cycles []) ∙ greater_after_secs name secs (spell_cycles cycles [])
    ∙ reads_cycles (Sectioned name secs) cycles [] (AfterSections name secs) (λ more. refl)
reads_tree (WithCycles name cycles) = reads_cycles (Bare name) cycles [] (AtBody name) (λ more. refl)

finish_cycles : (head : THead) (cycles : CyclesTree) → finish_tree (cycles_end head cycles) ≡ Some (with_cycles head cycles)
finish_cycles head NoCycles = refl
finish_cycles head (Cycles cycles) = refl

pub finish_end : (tree : RecursionTree) → finish_tree (tree_end tree) ≡ Some tree
finish_end (WithSections name secs) = refl
finish_end (WithBoth name secs cycles) = finish_cycles (Sectioned name secs) cycles
finish_end (WithCycles name cycles) = finish_cycles (Bare name) cycles

-- what was read can be completed
abbrev pub Completes : TSpot → Type 0
Completes spot = (tree : RecursionTree) × (more : List Lexeme) × (spell_spot spot more ≡ recursion_tokens tree)

completes_sec : (name : List ℕ) (secs : Option SecsTree) (sec : SecTree) → spell_opened name secs (spell_sec sec (Sign m.Greater ∷ [])) ≡ recursion_tokens (WithSections name (join_secs secs sec))
completes_sec name None sec = refl
completes_sec name (Some secs) sec = refl

completes_name : (name : List ℕ) (secs : Option SecsTree) (word : Option SecWordTree) (last : SecNameTree) →
    spell_opened name secs (spell_before_word word (spell_secname last (Sign m.Greater ∷ []))) ≡ recursion_tokens (WithSections name (join_secs secs (Names (join_word word last))))
completes_name name secs None last = completes_sec name secs (Names (OneName last))
completes_name name secs (Some word) last = completes_sec name secs (Names (MoreNames word last))

completes_head : (head : THead) (cycles : CyclesTree) → spell_head head (spell_cycles cycles []) ≡ recursion_tokens (with_cycles head cycles)
completes_head (Bare name) _ = refl
completes_head (Sectioned name secs) _ = refl

completes_numbers : (head : THead) (cycles : Option CycleListTree) (numbers : NumbersTree) →
    spell_head head (spell_before_cycle cycles (Sign m.LeftParen ∷ spell_numbers numbers (Sign m.RightParen ∷ []))) ≡ recursion_tokens (with_cycles head (Cycles (join_cycles cycles numbers)))
completes_numbers head None numbers = completes_head head (Cycles (OneCycle numbers))
completes_numbers head (Some cycles) numbers = completes_head head (Cycles (MoreCycles cycles numbers))

completes_number : (head : THead) (cycles : Option CycleListTree) (numbers : Option NumbersTree) → Completes (AtNumber head cycles numbers)
completes_number head cycles None = (with_cycles head (Cycles (join_cycles cycles (OneNumber (49 ∷ [])))), one ∷ Sign m.RightParen ∷ [], completes_numbers head cycles (OneNumber (49 ∷ [])))
completes_number head cycles (Some numbers) = (with_cycles head (Cycles (join_cycles cycles (MoreNumbers numbers (49 ∷ [])))), one ∷ Sign m.RightParen ∷ [], completes_numbers head cycles (MoreNumbers numbers (49 ∷ [])))

pub completes : (spot : TSpot) → Completes spot
completes AtName = (WithCycles (97 ∷ []) NoCycles, Name (97 ∷ []) ∷ Sign m.Equals ∷ Sign m.LeftParen ∷ Sign m.RightParen ∷ [], refl)
completes (AtEquals name) = (WithCycles name NoCycles, Sign m.Equals ∷ Sign m.LeftParen ∷ Sign m.RightParen ∷ [], refl)
completes (AtBody name) = (WithCycles name NoCycles, Sign m.LeftParen ∷ Sign m.RightParen ∷ [], refl)
completes (AtSection name secs) = (WithSections name (join_secs secs Trivial), one ∷ Sign m.Greater ∷ [], completes_sec name secs Trivial)
completes (AfterOne name secs) = (WithSections name (join_secs secs Trivial), Sign m.Greater ∷ [], completes_sec name secs Trivial)
completes (AfterName name secs word last) = (WithSections name (join_secs secs (Names (join_word word (Forward last)))), Sign m.Greater ∷ [], completes_name name secs word (Forward last))
completes (AtMinus name secs word last) = (WithSections name (join_secs secs (Names (join_word word (Inverse last)))), Sign m.Minus ∷ one ∷ Sign m.Greater ∷ [], completes_name name secs word (Inverse last))
completes (AtInverseOne name secs word last) = (WithSections name (join_secs secs (Names (join_word word (Inverse last)))), one ∷ Sign m.Greater ∷ [], completes_name name secs word (Inverse last))
completes (AfterWord name secs word) = (WithSections name (join_secs secs (Names word)), Sign m.Greater ∷ [], completes_sec name secs (Names word))
completes (AtNextName name secs word) = (WithSections name (join_secs secs (Names (MoreNames word (Forward (97 ∷ []))))), Name (97 ∷ []) ∷ Sign m.Greater ∷ [], completes_sec name secs (Names (MoreNames word (Forward (97 ∷ [])))))
completes (AfterSections name secs) = (WithSections name secs, [], refl)
completes (AtFirst head) = (with_cycles head NoCycles, Sign m.RightParen ∷ [], completes_head head NoCycles)
completes (AtNumber head cycles numbers) = completes_number head cycles numbers
completes (AfterNumber head cycles numbers) = (with_cycles head (Cycles (join_cycles cycles numbers)), Sign m.RightParen ∷ [], completes_numbers head cycles numbers)
completes (AfterCycle head cycles) = (with_cycles head (Cycles cycles), [], completes_head head (Cycles cycles))
completes (AfterEmpty head) = (with_cycles head NoCycles, [], completes_head head NoCycles)

abbrev pub exact_recursions : Exact RecursionTree TSpot
exact_recursions = record {
  tokens_of = recursion_tokens;
  start = AtName;
  step = take_tree;
  finish = finish_tree;
  spelled = spell_spot;
  starts = λ rest. refl;
  steps = steps;
  finishes = finishes;
  reads = λ tree. (tree_end tree, reads_tree tree, finish_end tree);
  completes = completes;
}
