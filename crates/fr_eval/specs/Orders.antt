-- What the search for the order of an element finds.
use Rattle.std.specs.Prelude.{ℕ, suc, ◌≡◌, ◌⊎◌, ◌<◌, List, ◌++◌, codes, Option, Some, None, Result, Ok, Err}
use Rattle.std.specs.Fmt.{decimal}
use Rattle.fr_model.specs.Terms.{Term, One, IsAlike}
use Rattle.fr_store.specs.Store.{View}
use Rattle.fr_plain.specs.Steps.{Multiplied, IsRefused}
use Rattle.fr_plain.specs.Answers.{power, power_steps, HasNoOrder, line_of}
use Rattle.fr_plain.specs.Beginnings.{AreFirstPowers}
use Rattle.fr_expr.specs.declared.fault.EvalFault.{EvalFault}
use Rattle.fr_expr.specs.declared.fault.EvalFault.TheVariants.{Refused, Full, NoMemory}
use Rattle.fr_expr.specs.Evaluation.{Makes}
use Rattle.fr_eval.specs.Concluding.{FullBeside, EarlyBeside}

-- the powers that an order up to the bound needs if none is the identity, of which the last has the exponent of the bound
abbrev pub IsLastPower : ℕ → ℕ → Type 0
IsLastPower most k = (most ≡ suc k) ⊎ ((most ≡ 0) × (k ≡ 0))

-- the least exponent with which the power is the identity, none up to the bound, the power that is refused, or an early stop
abbrev pub FindsOrder : {S : Type 0} → View S → ℕ → Term → ℕ → S → S → ℕ → ℕ → Result (Option ℕ) EvalFault → Type 0
FindsOrder view d t most old new before after (Ok (Some exponent)) = (k : ℕ) × (exponent ≡ suc k) × (k < most) × HasNoOrder t k × IsAlike (power t k) One × Makes view d old new before after (power_steps t k)
FindsOrder view d t most old new before after (Ok None) = (k : ℕ) × IsLastPower most k × HasNoOrder t most × Makes view d old new before after (power_steps t k)
FindsOrder view d t most old new before after (Err (Refused fault)) = (k : ℕ) × (suc k < most) × HasNoOrder t (suc k) × Makes view d old new before after (power_steps t k) × IsRefused d (Multiplied (power t k) t) fault
FindsOrder view d t most old new before after (Err (Full claimed asked)) = FullBeside view d (AreFirstPowers d t most) old new before after claimed asked
FindsOrder view d t most old new before after (Err NoMemory) = EarlyBeside view d (AreFirstPowers d t most) old new before after

-- the exponent, or that it passes the bound
abbrev pub order_text : Option ℕ → ℕ → List ℕ
order_text (Some exponent) most = line_of (decimal exponent)
order_text None most = line_of (codes "passes " ++ decimal most)
