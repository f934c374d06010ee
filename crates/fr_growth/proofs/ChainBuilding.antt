-- A chain grows by one link behind its last.
use Rattle.std.proofs.Common.{ℕ, zero, suc, ◌≡◌, ◌≢◌, ◌+◌, ◌-◌, ◌*◌, ◌<◌, ◌≤◌, ◌⊎◌, inl, inr, Bool, false, List, [], ◌∷◌, ◌++◌, length, get_or, refl, sym, ◌∙◌, ap, arith, length-append, append_assoc}
use Rattle.std.proofs.lemmas.List.{append-nil}
use Rattle.std.proofs.lemmas.Bool.{cases_order, ne_eqb, eqb-true}
use Rattle.fr_model.specs.Words.{IsLetter, IsWord}
use Rattle.fr_model.specs.Automata.{State, next_state, state_after}
use Rattle.fr_model.specs.Activity.{Link}
use Rattle.fr_machine.specs.declared.row.Row.{Row}
use Rattle.fr_machine.specs.Rows.{states_of}
use Rattle.fr_machine.specs.Minimal.{IsMinimal}
use Rattle.fr_growth.specs.Walks.{unmarked, IsStateChain}
use Rattle.fr_growth.specs.Components.{AreComponents}
use Rattle.fr_growth.specs.Levels.{AreMoving, AreReturns, AreLevels, IsHead, stays, next_component}
use Rattle.fr_growth.specs.Chains.{IsAppended, IsRoundTrip, IsStayingLetter, IsLeavingLetter}
use Rattle.fr_growth.proofs.LayerBridge.{level_at}
use Rattle.fr_growth.proofs.WalkLaws.{state_after-append}
use Rattle.fr_growth.proofs.ComponentLaws.{none_or_some, count_none, number_after, returns_here, word_stays, returns_moves, other_moves, one_letter}
use Rattle.fr_growth.proofs.WayLaws.{short_way}
use Rattle.fr_growth.proofs.RowLaws.{auto_next}
use Rattle.fr_model.proofs.TermLaws.{IsWord-append}

-- the state behind a chain
abbrev pub chain_end : List State → ℕ → List Link → ℕ
chain_end qs s [] = s
chain_end qs s (l ∷ ls) = chain_end qs (state_after qs s l.at) ls

-- a link behind the state
pub record IsNext (d : ℕ) (qs : List State) (dead : ℕ → Bool) (from : ℕ) (l : Link) : Type 0 where
  pub at : IsWord d l.at
  pub back : IsWord d l.back
  pub some : l.back ≢ []
  pub moved : dead (state_after qs from l.at) ≡ false
  pub returns : state_after qs (state_after qs from l.at) l.back ≡ state_after qs from l.at

pub chain_push : (d : ℕ) (qs : List State) (dead : ℕ → Bool) (s : ℕ) (ls : List Link) (l : Link) → IsStateChain d qs dead s ls → IsNext d qs dead (chain_end qs s ls) l
    → ((ls ≡ []) ⊎ ((v : List ℕ) → IsWord d v → state_after qs (state_after qs (chain_end qs s ls) l.at) v ≢ chain_end qs s ls)) → IsStateChain d qs dead s (ls ++ l ∷ [])
chain_push d qs dead s [] l ch n h = (n.at, n.back, n.some, n.moved, n.returns, tt, tt)
chain_push d qs dead s (k ∷ []) l ch n h = (ch.0, ch.1, ch.2, ch.3, ch.4, elim h [ inl e ↦ absurd (let f : ◌≡◌ {A = List Link} (k ∷ []) [] = e in cc) | inr p ↦ p ], (n.at, n.back, n.some, n.moved, n.returns, tt, tt))
chain_push d qs dead s (k ∷ m ∷ ms) l ch n h = (ch.0, ch.1, ch.2, ch.3, ch.4, ch.5, chain_push d qs dead (state_after qs s k.at) (m ∷ ms) l ch.6 n (elim h [ inl e ↦ absurd (let f : ◌≡◌ {A = List Link} (k ∷ m ∷ ms) [] = e in cc) | inr p ↦ inr p ]))

pub chain_end-push : (qs : List State) (s : ℕ) (ls : List Link) (l : Link) → chain_end qs s (ls ++ l ∷ []) ≡ state_after qs (chain_end qs s ls) l.at
chain_end-push qs s [] l = refl
chain_end-push qs s (k ∷ ks) l = chain_end-push qs (state_after qs s k.at) ks l

-- the links so far; a word that leads on to a row from the last of them; and how many links are left, from that row on
pub record IsPartChain (d : ℕ) (rows : List Row) (moving numbers levels : List ℕ) (links : List Link) (word : List ℕ) (at level : ℕ) : Type 0 where
  pub below : at < length rows
  pub count : length links + level ≡ level_at numbers levels 0
  pub chain : IsStateChain d (states_of rows) (unmarked moving) 0 links
  pub valid : IsWord d word
  pub leads : state_after (states_of rows) (chain_end (states_of rows) 0 links) word ≡ at
  pub short : 0 < level → length word + get_or numbers at 0 ≤ length rows
  pub falls : 0 < level → (links ≡ []) ⊎ (get_or numbers at 0 < get_or numbers (chain_end (states_of rows) 0 links) 0)
  pub level_is : 0 < level → level_at numbers levels at ≡ level

-- the links so far; a word that leads from the last of them to a row, which is left next; and how many links are left
pub record IsReady (d : ℕ) (rows : List Row) (moving numbers levels : List ℕ) (links : List Link) (word : List ℕ) (head level : ℕ) : Type 0 where
  pub below : head < length rows
  pub count : length links + level ≡ level_at numbers levels 0
  pub chain : IsStateChain d (states_of rows) (unmarked moving) 0 links
  pub valid : IsWord d word
  pub leads : state_after (states_of rows) (chain_end (states_of rows) 0 links) word ≡ head
  pub short : length word + get_or numbers head 0 ≤ length rows
  pub falls : (links ≡ []) ⊎ (get_or numbers head 0 ≤ get_or numbers (chain_end (states_of rows) 0 links) 0)
  pub some : 0 < level
  pub exit : (x : ℕ) × IsLeavingLetter d rows numbers levels head level x

module _ (d : ℕ) (rows : List Row) (m : IsMinimal d rows) (moving : List ℕ) (v : AreMoving rows moving) (numbers : List ℕ) (a : AreComponents d rows numbers)
    (returns : List ℕ) (t : AreReturns d rows moving numbers returns) (few : (s : ℕ) → get_or returns s 0 ≤ 1) (levels heads : List ℕ) (l : AreLevels d rows numbers returns levels heads) where
  pub part_first : IsPartChain d rows moving numbers levels [] [] 0 (level_at numbers levels 0)
  part_first = record {
    below = m.machine.least;
    count = omega arith;
    chain = tt;
    valid = tt;
    leads = refl;
    short = λ p. omega (arith, a.small 0 m.machine.least);
    falls = λ p. inl refl;
    level_is = λ p. refl;
  }

  -- the head of the component of a row
  pub part_head : (links : List Link) (word : List ℕ) (at level : ℕ) → IsPartChain d rows moving numbers levels links word at level → 0 < level → IsHead d rows numbers returns levels (get_or numbers at 0) (get_or heads (get_or numbers at 0) 0)
  part_head links word at level p b = l.headed (get_or numbers at 0) (a.small at p.below) (omega (arith, p.level_is b))

  one : (x : ℕ) → x ≢ 0 → x ≤ 1 → x ≡ 1
  one zero h g = absurd (h refl)
  one (suc x) h g = omega arith

  module _ (links : List Link) (word : List ℕ) (at level head : ℕ) (new : List ℕ) (p : IsPartChain d rows moving numbers levels links word at level) (b : 0 < level)
      (h : IsHead d rows numbers returns levels (get_or numbers at 0) head) (w : IsAppended d rows at head word new) where
    -- the word up to the head
    pub head_valid : IsWord d new
    head_valid = rw w.appended (IsWord-append d word w.along p.valid w.way.valid)

    head_leads : state_after (states_of rows) (chain_end (states_of rows) 0 links) new ≡ head
    head_leads = rw w.appended (state_after-append (states_of rows) (chain_end (states_of rows) 0 links) word w.along ∙ ap (λ z. state_after (states_of rows) z w.along) p.leads ∙ w.way.leads)

    pub head_short : length new ≤ 2 * length rows
    head_short = omega (arith, ap length w.appended, length-append word w.along, p.short b, w.way.most)

    -- where the head returns it is the next member
    pub link_chain : (back : List ℕ) → get_or returns head 0 ≢ 0 → IsRoundTrip d rows head back → IsStateChain d (states_of rows) (unmarked moving) 0 (links ++ record { at = new; back = back } ∷ [])
    link_chain back turns c =
        let qs = states_of rows in
        let k : Link = record { at = new; back = back } in
        let alive : unmarked moving head ≡ false = ne_eqb (get_or moving head 0) 0 (returns_moves d rows m numbers a moving v returns t head h.below turns) in
        let link : IsNext d qs (unmarked moving) (chain_end qs 0 links) k = record {
          at = head_valid;
          back = c.valid;
          some = c.some;
          moved = ap (unmarked moving) head_leads ∙ alive;
          returns = ap (λ z. state_after qs z back) head_leads ∙ c.leads ∙ sym head_leads;
        } in
        chain_push d qs (unmarked moving) 0 links k p.chain link (elim (p.falls b) [
          | inl e ↦ inl e
          | inr e ↦ inr (λ q g same.
              let from : state_after qs head q ≡ chain_end qs 0 links = ap (λ z. state_after qs z q) (sym head_leads) ∙ same in
              omega (arith, e, number_after d rows m numbers a head q h.below g, ap (λ z. get_or numbers z 0) from, h.inside))
        ])

    -- a letter out of the component of the head, to a row of the level that is left
    pub exit_turn : get_or returns head 0 ≢ 0 → 1 < level → (x : ℕ) × IsLetter d x × (next_component rows numbers head x ≢ get_or numbers head 0) × (get_or levels (next_component rows numbers head x) 0 ≡ level - 1)
    exit_turn turns more = elim h.attained [
      | inl z ↦ absurd (omega (arith, z, few head, p.level_is b, more))
      | inr z ↦ (z.0, z.1, rw h.inside z.2, omega (arith, z.3, p.level_is b, one (get_or returns head 0) turns (few head)))
    ]

    pub exit_plain : get_or returns head 0 ≡ 0 → (x : ℕ) × IsLetter d x × (next_component rows numbers head x ≢ get_or numbers head 0) × (get_or levels (next_component rows numbers head x) 0 ≡ level)
    exit_plain none = elim h.attained [
      | inl z ↦ absurd (omega (arith, z, none, p.level_is b))
      | inr z ↦ (z.0, z.1, rw h.inside z.2, omega (arith, z.3, p.level_is b, none))
    ]

    number_falls : (x next : ℕ) → IsLetter d x → next_component rows numbers head x ≢ get_or numbers head 0 → next ≡ next_state (states_of rows) head x → get_or numbers next 0 < get_or numbers head 0
    number_falls x next k out e = omega (arith, a.falls head x h.below k, below (next_component rows numbers head x) (get_or numbers head 0) out, ap (λ z. get_or numbers z 0) e)
      where
        below : (p q : ℕ) → p ≢ q → (p < q) ⊎ (q < p)
        below p q ne = elim (cases_order p q) [ inl e ↦ absurd (ne e) | inr o ↦ o ]

    -- a link, and the head is left
    pub ready_turn : (back : List ℕ) → get_or returns head 0 ≢ 0 → 1 < level → IsRoundTrip d rows head back → IsReady d rows moving numbers levels (links ++ record { at = new; back = back } ∷ []) [] head (level - 1)
    ready_turn back turns more c =
        let ends : chain_end (states_of rows) 0 (links ++ record { at = new; back = back } ∷ []) ≡ head = chain_end-push (states_of rows) 0 links (record { at = new; back = back }) ∙ head_leads in
        let x = exit_turn turns more in
        record {
          below = h.below;
          count = omega (arith, p.count, length-append links (record { at = new; back = back } ∷ []), b);
          chain = link_chain back turns c;
          valid = tt;
          leads = ends;
          short = omega (arith, a.small head h.below);
          falls = inr (rw ends (omega arith));
          some = omega arith;
          exit = (x.0, record { letter = x.1; outside = x.2; level_is = x.3 });
        }

    -- the head does not return, and is left
    pub ready_plain : at ≡ head → get_or returns head 0 ≡ 0 → IsReady d rows moving numbers levels links new head level
    ready_plain same none =
        let x = exit_plain none in
        record {
          below = h.below;
          count = p.count;
          chain = p.chain;
          valid = head_valid;
          leads = head_leads;
          short = omega (arith, ap length w.appended, length-append word w.along, ap length (w.none same), p.short b, h.inside);
          falls = elim (p.falls b) [ inl z ↦ inl z | inr z ↦ inr (omega (arith, z, h.inside)) ];
          some = b;
          exit = (x.0, record { letter = x.1; outside = x.2; level_is = x.3 });
        }

  -- a letter that leaves a component leads to a lower one
  pub leaving_falls : (head level x next : ℕ) → head < length rows → IsLeavingLetter d rows numbers levels head level x → next ≡ next_state (states_of rows) head x → get_or numbers next 0 < get_or numbers head 0
  leaving_falls head level x next lt k f = omega (arith, a.falls head x lt k.letter, unequal (next_component rows numbers head x) (get_or numbers head 0) k.outside, ap (λ z. get_or numbers z 0) f)
    where
      unequal : (p q : ℕ) → p ≢ q → (p < q) ⊎ (q < p)
      unequal p q ne = elim (cases_order p q) [ inl e ↦ absurd (ne e) | inr o ↦ o ]

  -- a letter on
  pub ready_more : (links : List Link) (word : List ℕ) (head level x next : ℕ) (word' : List ℕ) → IsReady d rows moving numbers levels links word head level → IsLeavingLetter d rows numbers levels head level x → next ≡ next_state (states_of rows) head x → next < length rows
      → word' ≡ word ++ x ∷ [] → IsPartChain d rows moving numbers levels links word' next level
  ready_more links word head level x next word' r k f lt g = record {
    below = lt;
    count = r.count;
    chain = r.chain;
    valid = rw g (IsWord-append d word (x ∷ []) r.valid (k.letter, tt));
    leads = rw g (state_after-append (states_of rows) (chain_end (states_of rows) 0 links) word (x ∷ []) ∙ ap (λ z. next_state (states_of rows) z x) r.leads ∙ sym f);
    short = λ q. omega (arith, ap length g, length-append word (x ∷ []), r.short, leaving_falls head level x next r.below k f);
    falls = λ q. elim r.falls [ inl z ↦ inl z | inr z ↦ inr (omega (arith, z, leaving_falls head level x next r.below k f)) ];
    level_is = λ q. ap (λ z. level_at numbers levels z) f ∙ k.level_is;
  }

-- ---- a walk inside a component
-- the word so far, and a rest that leads to the end, both together shorter than the rows
pub record IsWalking (d : ℕ) (rows : List Row) (from to : ℕ) (old : List ℕ) (at : ℕ) (word : List ℕ) : Type 0 where
  pub along : List ℕ
  pub rest : List ℕ
  pub below : at < length rows
  pub appended : word ≡ old ++ along
  pub along_valid : IsWord d along
  pub rest_valid : IsWord d rest
  pub leads : state_after (states_of rows) from along ≡ at
  pub goes_on : state_after (states_of rows) at rest ≡ to
  pub most : length along + length rest < length rows
  pub none : from ≡ to → along ≡ []

module _ (d : ℕ) (rows : List Row) (m : IsMinimal d rows) (moving : List ℕ) (v : AreMoving rows moving) (numbers : List ℕ) (a : AreComponents d rows numbers)
    (returns : List ℕ) (t : AreReturns d rows moving numbers returns) (few : (s : ℕ) → get_or returns s 0 ≤ 1) (from to : ℕ) (b : from < length rows) (c : to < length rows) (inside : get_or numbers to 0 ≡ get_or numbers from 0) (old : List ℕ) where
  pub walking_first : IsWalking d rows from to old from old
  walking_first =
      let w = short_way d rows m from to b (a.joined from to b c (sym inside)) in
      record {
        along = [];
        rest = w.0;
        below = b;
        appended = sym (append-nil old);
        along_valid = tt;
        rest_valid = w.1.valid;
        leads = refl;
        goes_on = w.1.leads;
        most = omega (arith, w.1.most);
        none = λ e. refl;
      }

  -- the row so far is in the component
  walking_inside : (at : ℕ) (word : List ℕ) → IsWalking d rows from to old at word → get_or numbers at 0 ≡ get_or numbers to 0
  walking_inside at word w = omega (arith, number_after d rows m numbers a from w.along b w.along_valid, number_after d rows m numbers a at w.rest w.below w.rest_valid, ap (λ z. get_or numbers z 0) w.leads, ap (λ z. get_or numbers z 0) w.goes_on, inside)

  -- where the end is not reached the rest begins with a letter that stays
  pub walking_letter : (at : ℕ) (word : List ℕ) → at ≢ to → IsWalking d rows from to old at word → (x : ℕ) × IsStayingLetter d rows numbers at x
  walking_letter at word ne w = go w.rest w.rest_valid w.goes_on
    where
      go : (rest : List ℕ) → IsWord d rest → state_after (states_of rows) at rest ≡ to → (x : ℕ) × IsStayingLetter d rows numbers at x
      go [] h e = absurd (ne e)
      go (x ∷ rest) h e = (x, record { letter = h.0; inside = word_stays d rows m numbers a at x rest w.below h.0 h.1 (ap (λ z. get_or numbers z 0) e ∙ sym (walking_inside at word w)) })

  pub walking_more : (at next x : ℕ) (word word' : List ℕ) → at ≢ to → IsWalking d rows from to old at word → IsStayingLetter d rows numbers at x → next ≡ next_state (states_of rows) at x → word' ≡ word ++ x ∷ [] → IsWalking d rows from to old next word'
  walking_more at next x word word' ne w k e f = go w.rest w.rest_valid w.goes_on w.most
    where
      go : (rest : List ℕ) → IsWord d rest → state_after (states_of rows) at rest ≡ to → length w.along + length rest < length rows → IsWalking d rows from to old next word'
      go [] h g l = absurd (ne g)
      go (y ∷ rest) h g l =
          let inside' = walking_inside at word w in
          let moves = other_moves d rows m numbers a moving v returns t at to w.below c inside' ne in
          let stay = word_stays d rows m numbers a at y rest w.below h.0 h.1 (ap (λ z. get_or numbers z 0) g ∙ sym inside') in
          let same : y ≡ x = one_letter d rows m numbers a moving v returns t at y x w.below moves (few at) h.0 k.letter stay k.inside in
          record {
            along = w.along ++ x ∷ [];
            rest = rest;
            below = rw e (auto_next d rows m.machine at x w.below);
            appended = f ∙ ap (λ (z : List ℕ). z ++ x ∷ []) w.appended ∙ append_assoc old w.along (x ∷ []);
            along_valid = IsWord-append d w.along (x ∷ []) w.along_valid (k.letter, tt);
            rest_valid = h.1;
            leads = state_after-append (states_of rows) from w.along (x ∷ []) ∙ ap (λ z. next_state (states_of rows) z x) w.leads ∙ sym e;
            goes_on = ap (λ z. state_after (states_of rows) z rest) (e ∙ ap (λ z. next_state (states_of rows) at z) (sym same)) ∙ g;
            most = omega (arith, l, length-append w.along (x ∷ []));
            none = λ z. absurd (ne (sym w.leads ∙ ap (λ q. state_after (states_of rows) from q) (w.none z) ∙ z));
          }

  pub walking_last : (at : ℕ) (word : List ℕ) → at ≡ to → IsWalking d rows from to old at word → IsAppended d rows from to old word
  walking_last at word e w = record {
    along = w.along;
    appended = w.appended;
    way = record { valid = w.along_valid; leads = w.leads ∙ e; most = omega (arith, w.most) };
    none = w.none;
  }

-- a row that returns has a letter that stays
pub turning_letter : (d : ℕ) (rows : List Row) (m : IsMinimal d rows) (moving : List ℕ) (v : AreMoving rows moving) (numbers : List ℕ) (a : AreComponents d rows numbers) (returns : List ℕ) (t : AreReturns d rows moving numbers returns)
    (s : ℕ) → s < length rows → get_or returns s 0 ≢ 0 → (x : ℕ) × IsStayingLetter d rows numbers s x
turning_letter d rows m moving v numbers a returns t s b n = elim (none_or_some (stays rows numbers s) d) [
  | inl none ↦ absurd (n (returns_here d rows m numbers a moving v returns t s b (returns_moves d rows m numbers a moving v returns t s b n) ∙ count_none (stays rows numbers s) d none))
  | inr y ↦ (y.0, record { letter = y.1; inside = eqb-true (next_component rows numbers s y.0) (get_or numbers s 0) y.2 })
]

-- a letter, and a walk back
pub round_of : (d : ℕ) (rows : List Row) (row x next : ℕ) (word : List ℕ) → IsLetter d x → next ≡ next_state (states_of rows) row x → IsAppended d rows next row (x ∷ []) word → IsRoundTrip d rows row word
round_of d rows row x next word k e w = rw w.appended (record {
  valid = (k, w.way.valid);
  leads = ap (λ z. state_after (states_of rows) z w.along) (sym e) ∙ w.way.leads;
  some = λ z. cc;
  most = omega (arith, w.way.most);
})
