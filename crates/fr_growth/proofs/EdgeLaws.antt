-- Edges that are added one after the other.
use Rattle.std.proofs.Common.{ℕ, zero, suc, ◌≡◌, ◌≢◌, ◌+◌, ◌-◌, ◌<◌, ◌≤◌, ◌⊎◌, inl, inr, List, [], ◌∷◌, ◌++◌, length, set, get_or, refl, sym, ◌∙◌, ap, arith}
use Rattle.std.proofs.lemmas.List.{get_or_append_left, get_or_push, length_push, get_or-set_same, get_or-set_other, length-set}
use Rattle.std.proofs.lemmas.Bool.{cases_lt, cases_eq}
use Rattle.fr_model.specs.Words.{IsLetter}
use Rattle.fr_model.specs.Automata.{next_state}
use Rattle.fr_machine.specs.declared.row.Row.{Row}
use Rattle.fr_machine.specs.Rows.{states_of}
use Rattle.fr_growth.specs.declared.edges.Edge.{Edge}
use Rattle.fr_growth.specs.Distances.{AreDistances}
use Rattle.fr_growth.specs.Edges.{edge_at, target_at, IsLatest, AreEdges, AreEdgesFrom, IsAdded}

abbrev no_edge : Edge
no_edge = record { row = 0; letter = 0; earlier = 0 }

module _ (rows : List Row) (edges : List Edge) (k : Edge) where
  pub edge_old : (e : ℕ) → e < length edges → edge_at (edges ++ k ∷ []) e ≡ edge_at edges e
  edge_old e l = get_or_append_left edges (k ∷ []) no_edge e l

  pub edge_new : edge_at (edges ++ k ∷ []) (length edges) ≡ k
  edge_new = get_or_push edges k no_edge (length edges) refl

  target_old : (e : ℕ) → e < length edges → target_at rows (edges ++ k ∷ []) e ≡ target_at rows edges e
  target_old e l = ap (λ (z : Edge). next_state (states_of rows) z.row z.letter) (edge_old e l)

  latest_old : (t number n : ℕ) → n ≤ length edges → IsLatest rows edges t number n → IsLatest rows (edges ++ k ∷ []) t number n
  latest_old t number n l h = record {
    below = h.below;
    hits = λ ne. let pos : 0 < number = positive number ne in target_old (number - 1) (omega (arith, pos, h.below, l)) ∙ h.hits ne;
    last = λ e a b z. h.last e a b (sym (target_old e (omega (arith, b, l))) ∙ z);
  }
    where
      positive : (a : ℕ) → a ≢ 0 → 0 < a
      positive zero f = absurd (f refl)
      positive (suc a) f = omega arith

-- ---- an edge is added
module _ (d : ℕ) (rows : List Row) (from : ℕ) (order values : List ℕ) (dist : AreDistances d rows from order values) (edges : List Edge) (latest : List ℕ) (i x t : ℕ) (h : AreEdgesFrom d rows order values edges latest i x)
    (below : i < length order) (letter : IsLetter d (x + 1)) (to : t ≡ next_state (states_of rows) (get_or order i 0) (x + 1)) (tb : t < length rows) where
  abbrev k : Edge
  k = record { row = get_or order i 0; letter = x + 1; earlier = get_or latest t 0 }

  abbrev edges' : List Edge
  edges' = edges ++ k ∷ []

  abbrev latest' : List ℕ
  latest' = set latest t (length edges + 1)

  longer : length edges' ≡ length edges + 1
  longer = length_push edges k

  cases : (e : ℕ) → e < length edges' → (e < length edges) ⊎ (e ≡ length edges)
  cases e l = elim (cases_lt e (length edges)) [ inl q ↦ inl q | inr q ↦ inr (omega (arith, longer)) ]

  target_new : target_at rows edges' (length edges) ≡ t
  target_new = ap (λ (z : Edge). next_state (states_of rows) z.row z.letter) (edge_new rows edges k) ∙ sym to

  new_row : (edge_at edges' (length edges)).row ≡ get_or order i 0
  new_row = ap (λ (z : Edge). z.row) (edge_new rows edges k)

  pub edges_more : AreEdgesFrom d rows order values edges' latest' i (x + 1)
  edges_more = record {
    size = length-set latest t (length edges + 1) ∙ h.size;
    inside = λ e l. elim (cases e l) [
      | inl q ↦ rw (edge_old rows edges k e q) (h.inside e q)
      | inr q ↦ rw (q, edge_new rows edges k) ((i, omega arith, below, refl), letter)
    ];
    whole = λ j y l m q. elim (cases_eq j i) [
      | inl same ↦ elim (cases_eq y (x + 1)) [
        | inl last ↦ (length edges, omega (arith, longer), new_row ∙ ap (λ z. get_or order z 0) (sym same), ap (λ (z : Edge). z.letter) (edge_new rows edges k) ∙ sym last)
        | inr ne ↦ old j y (h.whole j y l m (elim q [ inl z ↦ inl z | inr z ↦ inr (z.0, omega (arith, z.1)) ]))
      ]
      | inr ne ↦ old j y (h.whole j y l m (elim q [ inl z ↦ inl z | inr z ↦ absurd (ne (sym z.0)) ]))
    ];
    falling = λ e f o l. elim (cases f l) [
      | inl q ↦ rw (edge_old rows edges k e (omega arith), edge_old rows edges k f q) (h.falling e f o q)
      | inr q ↦ elim (cases e (omega arith)) [
        | inl p ↦
            let w = (h.inside e p).0 in
            let v = dist.rising i w.0 w.1 w.2 in
            rw (q, edge_new rows edges k, edge_old rows edges k e p) (omega (arith, v, ap (λ z. get_or values z 0) w.3))
        | inr p ↦ rw (q, p) (omega arith)
      ]
    ];
    heads = λ u l. elim (cases_eq u t) [
      | inl same ↦
          let here : get_or latest' u 0 ≡ length edges + 1 = rw same (get_or-set_same latest t (length edges + 1) 0 (omega (arith, h.size, tb))) in
          rw (here, longer, same) (record {
            below = omega arith;
            hits = λ ne. let at : length edges + 1 - 1 ≡ length edges = omega arith in rw at target_new;
            last = λ e a b. absurd (omega arith);
          })
      | inr ne ↦
          let there : get_or latest' u 0 ≡ get_or latest u 0 = get_or-set_other latest t u (length edges + 1) 0 ne in
          let o = latest_old rows edges k u (get_or latest u 0) (length edges) (omega arith) (h.heads u l) in
          rw (there, longer) (record {
            below = omega (arith, o.below);
            hits = o.hits;
            last = λ e a b z. elim (cases_lt e (length edges)) [ inl q ↦ o.last e a q z | inr q ↦ (let at : e ≡ length edges = omega arith in ne (sym z ∙ ap (target_at rows edges') at ∙ target_new)) ];
          })
    ];
    earlier = λ e l. elim (cases e l) [
      | inl q ↦ rw (edge_old rows edges k e q) (latest_old rows edges k (target_at rows edges e) (edge_at edges e).earlier e (omega arith) (h.earlier e q))
      | inr q ↦ rw (q, target_new, edge_new rows edges k) (latest_old rows edges k t (get_or latest t 0) (length edges) (omega arith) (h.heads t tb))
    ];
  }
    where
      old : (j y : ℕ) → (e : ℕ) × (e < length edges) × ((edge_at edges e).row ≡ get_or order j 0) × ((edge_at edges e).letter ≡ y) → (e : ℕ) × (e < length edges') × ((edge_at edges' e).row ≡ get_or order j 0) × ((edge_at edges' e).letter ≡ y)
      old j y w = (w.0, omega (arith, longer, w.1), ap (λ (z : Edge). z.row) (edge_old rows edges k w.0 w.1) ∙ w.2, ap (λ (z : Edge). z.letter) (edge_old rows edges k w.0 w.1) ∙ w.3)

pub edges_added : (d : ℕ) (rows : List Row) (from : ℕ) (order values : List ℕ) → AreDistances d rows from order values → (edges : List Edge) (latest : List ℕ) (i x t : ℕ) → AreEdgesFrom d rows order values edges latest i x
    → i < length order → IsLetter d (x + 1) → t ≡ next_state (states_of rows) (get_or order i 0) (x + 1) → t < length rows → (s : ℕ) → s ≡ get_or order i 0 → (new : List Edge) (heads : List ℕ) → IsAdded edges latest s (x + 1) t new heads → AreEdgesFrom d rows order values new heads i (x + 1)
edges_added d rows from order values dist edges latest i x t h b l to tb s e new heads a =
    rw (a.0, a.1, e) (edges_more d rows from order values dist edges latest i x t h b l to tb)

-- ---- the edges of no row, of one row more, and of all
pub edges_none : (d : ℕ) (rows : List Row) (order values latest : List ℕ) → length latest ≡ length rows → ((u : ℕ) → get_or latest u 0 ≡ 0) → AreEdgesFrom d rows order values [] latest (length order) d
edges_none d rows order values latest size nought = record {
  size = size;
  inside = λ e l. absurd (omega arith);
  whole = λ j y l k q. absurd (elim q [ inl z ↦ omega arith | inr z ↦ omega (arith, z.0) ]);
  falling = λ e f o l. absurd (omega arith);
  heads = λ t l. record { below = omega (arith, nought t); hits = λ ne. absurd (ne (nought t)); last = λ e a b. absurd (omega arith) };
  earlier = λ e l. absurd (omega arith);
}

pub edges_next : (d : ℕ) (rows : List Row) (order values : List ℕ) (edges : List Edge) (latest : List ℕ) (i : ℕ) → AreEdgesFrom d rows order values edges latest (i + 1) d → AreEdgesFrom d rows order values edges latest i 0
edges_next d rows order values edges latest i h = record {
  size = h.size;
  inside = λ e l. let w = h.inside e l in ((w.0.0, omega (arith, w.0.1), w.0.2, w.0.3), w.1);
  whole = λ j y l k q. h.whole j y l k (elim q [ inl z ↦ (elim (cases_lt (i + 1) j) [ inl less ↦ inl less | inr more ↦ inr (omega arith, k.1) ]) | inr z ↦ absurd (omega (arith, k.0, z.1)) ]);
  falling = h.falling;
  heads = h.heads;
  earlier = h.earlier;
}

pub edges_all : (d : ℕ) (rows : List Row) (order values : List ℕ) (edges : List Edge) (latest : List ℕ) (i : ℕ) → i ≤ 0 → AreEdgesFrom d rows order values edges latest i d → AreEdges d rows order values edges latest
edges_all d rows order values edges latest i z h = record {
  size = h.size;
  inside = λ e l. let w = h.inside e l in ((w.0.0, w.0.2, w.0.3), w.1);
  whole = λ j y l k. h.whole j y l k (elim (cases_lt i j) [ inl less ↦ inl less | inr more ↦ inr (omega arith, k.1) ]);
  falling = h.falling;
  heads = h.heads;
  earlier = h.earlier;
}
