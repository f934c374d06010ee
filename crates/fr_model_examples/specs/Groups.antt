-- Well-known groups as systems of wreath recursions, and systems whose sections are products. Names are numbered from 0.
use Rattle.std.specs.Prelude.{ℕ, true, false, List, [], ◌∷◌}
use Rattle.fr_model.specs.Systems.{Factor, Wreath, System}

-- a name, and its inverse
abbrev pub generator : ℕ → Factor
generator n = record { name = n; inverse = false }

abbrev pub inverse_generator : ℕ → Factor
inverse_generator n = record { name = n; inverse = true }

-- the permutation and the sections of a name
abbrev pub recursion : List ℕ → List (List Factor) → Wreath
recursion p s = record { perm = p; sections = s }

-- the adding machine: t = <1,t>(1,2)
abbrev pub adding_machine : System
adding_machine = recursion (2 ∷ 1 ∷ []) ([] ∷ (generator 0 ∷ []) ∷ []) ∷ []

-- Grigorchuk's group: a = (1,2), b = <a,c>, c = <a,d>, d = <1,b>
abbrev pub grigorchuk : System
grigorchuk =
    recursion (2 ∷ 1 ∷ []) ([] ∷ [] ∷ [])
    ∷ recursion (1 ∷ 2 ∷ []) ((generator 0 ∷ []) ∷ (generator 2 ∷ []) ∷ [])
    ∷ recursion (1 ∷ 2 ∷ []) ((generator 0 ∷ []) ∷ (generator 3 ∷ []) ∷ [])
    ∷ recursion (1 ∷ 2 ∷ []) ([] ∷ (generator 1 ∷ []) ∷ [])
    ∷ []

-- the basilica group: a = <1,b>, b = <1,a>(1,2)
abbrev pub basilica : System
basilica = recursion (1 ∷ 2 ∷ []) ([] ∷ (generator 1 ∷ []) ∷ []) ∷ recursion (2 ∷ 1 ∷ []) ([] ∷ (generator 0 ∷ []) ∷ []) ∷ []

-- an element of linear growth above the adding machine: s = <s,t>, t = <1,t>(1,2)
abbrev pub linear_growth : System
linear_growth = recursion (1 ∷ 2 ∷ []) ((generator 0 ∷ []) ∷ (generator 1 ∷ []) ∷ []) ∷ recursion (2 ∷ 1 ∷ []) ([] ∷ (generator 1 ∷ []) ∷ []) ∷ []

-- the lamplighter group: p = <q,p>(1,2), q = <q,p>, and r = <1,p>
abbrev pub lamplighter : System
lamplighter =
    recursion (2 ∷ 1 ∷ []) ((generator 1 ∷ []) ∷ (generator 0 ∷ []) ∷ [])
    ∷ recursion (1 ∷ 2 ∷ []) ((generator 1 ∷ []) ∷ (generator 0 ∷ []) ∷ [])
    ∷ recursion (1 ∷ 2 ∷ []) ([] ∷ (generator 0 ∷ []) ∷ [])
    ∷ []

-- the adding machine over three letters: r = <1,1,r>(1,2,3)
abbrev pub ternary_adding_machine : System
ternary_adding_machine = recursion (2 ∷ 3 ∷ 1 ∷ []) ([] ∷ [] ∷ (generator 0 ∷ []) ∷ []) ∷ []

-- t = <1,t>(1,2), s = <1,t*t^-1*s>(1,2)
abbrev pub cancelling : System
cancelling = recursion (2 ∷ 1 ∷ []) ([] ∷ (generator 0 ∷ []) ∷ []) ∷ recursion (2 ∷ 1 ∷ []) ([] ∷ (generator 0 ∷ inverse_generator 0 ∷ generator 1 ∷ []) ∷ []) ∷ []

-- Grigorchuk's group with x = <b*c,x>
abbrev pub grigorchuk_with_product : System
grigorchuk_with_product =
    recursion (2 ∷ 1 ∷ []) ([] ∷ [] ∷ [])
    ∷ recursion (1 ∷ 2 ∷ []) ((generator 0 ∷ []) ∷ (generator 2 ∷ []) ∷ [])
    ∷ recursion (1 ∷ 2 ∷ []) ((generator 0 ∷ []) ∷ (generator 3 ∷ []) ∷ [])
    ∷ recursion (1 ∷ 2 ∷ []) ([] ∷ (generator 1 ∷ []) ∷ [])
    ∷ recursion (1 ∷ 2 ∷ []) ((generator 1 ∷ generator 2 ∷ []) ∷ (generator 4 ∷ []) ∷ [])
    ∷ []

-- a = <a*a,1>(1,2)
abbrev pub doubling : System
doubling = recursion (2 ∷ 1 ∷ []) ((generator 0 ∷ generator 0 ∷ []) ∷ [] ∷ []) ∷ []

-- over three letters: g = <h^-1,1,g*h>(1,2,3), h = <g,h^-1*g^-1,h>(2,3)
abbrev pub ternary_products : System
ternary_products =
    recursion (2 ∷ 3 ∷ 1 ∷ []) ((inverse_generator 1 ∷ []) ∷ [] ∷ (generator 0 ∷ generator 1 ∷ []) ∷ [])
    ∷ recursion (1 ∷ 3 ∷ 2 ∷ []) ((generator 0 ∷ []) ∷ (inverse_generator 1 ∷ inverse_generator 0 ∷ []) ∷ (generator 1 ∷ []) ∷ [])
    ∷ []

-- section words that double without end: a = <a*a,a>
abbrev pub growing : System
growing = recursion (1 ∷ 2 ∷ []) ((generator 0 ∷ generator 0 ∷ []) ∷ (generator 0 ∷ []) ∷ []) ∷ []

-- a swap of the second letter: x = <a,a>, a = (1,2)
abbrev pub second_swap : System
second_swap = recursion (1 ∷ 2 ∷ []) ((generator 1 ∷ []) ∷ (generator 1 ∷ []) ∷ []) ∷ recursion (2 ∷ 1 ∷ []) ([] ∷ [] ∷ []) ∷ []
