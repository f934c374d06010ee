-- Computed actions: images of words under elements of the groups, computed by another program.
use Rattle.std.specs.Prelude.{ℕ, ◌≡◌, List, [], ◌∷◌}
use Rattle.fr_model.specs.Terms.{Name, Inverse, Product, Section, act, back}
use Rattle.fr_model_examples.specs.Groups.{adding_machine, grigorchuk, basilica, linear_growth, lamplighter, ternary_adding_machine, cancelling, doubling, grigorchuk_with_product}

-- the adding machine and its inverse
pub record AddingMachineActs : Type 0 where
  pub act_1 : ◌≡◌ {A = List ℕ} (act (Name adding_machine 0) (2 ∷ 2 ∷ 2 ∷ 1 ∷ [])) (1 ∷ 1 ∷ 1 ∷ 2 ∷ [])
  pub act_2 : ◌≡◌ {A = List ℕ} (act (Name adding_machine 0) []) []
  pub act_inverse_1 : ◌≡◌ {A = List ℕ} (act (Inverse (Name adding_machine 0)) (1 ∷ 1 ∷ 1 ∷ 2 ∷ [])) (2 ∷ 2 ∷ 2 ∷ 1 ∷ [])
  pub act_product_1 : ◌≡◌ {A = List ℕ} (act (Product (Name adding_machine 0) (Name adding_machine 0)) (2 ∷ 2 ∷ 2 ∷ 2 ∷ 1 ∷ [])) (2 ∷ 1 ∷ 1 ∷ 1 ∷ 2 ∷ [])
  pub act_section_1 : ◌≡◌ {A = List ℕ} (act (Section (Name adding_machine 0) (2 ∷ 2 ∷ [])) (2 ∷ 1 ∷ 2 ∷ 2 ∷ [])) (1 ∷ 2 ∷ 2 ∷ 2 ∷ [])
  pub act_section_2 : ◌≡◌ {A = List ℕ} (act (Section (Inverse (Name adding_machine 0)) (1 ∷ [])) (1 ∷ 1 ∷ 2 ∷ [])) (2 ∷ 2 ∷ 1 ∷ [])
  pub act_inverse_2 : ◌≡◌ {A = List ℕ} (act (Inverse (Section (Name adding_machine 0) (2 ∷ []))) (1 ∷ 1 ∷ 2 ∷ 1 ∷ [])) (2 ∷ 2 ∷ 1 ∷ 1 ∷ [])
  pub back_1 : ◌≡◌ {A = List ℕ} (back (Name adding_machine 0) (1 ∷ 1 ∷ 1 ∷ 2 ∷ [])) (2 ∷ 2 ∷ 2 ∷ 1 ∷ [])

-- Grigorchuk's group: products act by their first factor first
pub record GrigorchukActs : Type 0 where
  pub act_1 : ◌≡◌ {A = List ℕ} (act (Name grigorchuk 1) (1 ∷ 1 ∷ 2 ∷ [])) (1 ∷ 2 ∷ 2 ∷ [])
  pub act_product_1 : ◌≡◌ {A = List ℕ} (act (Product (Product (Name grigorchuk 0) (Name grigorchuk 1)) (Name grigorchuk 0)) (1 ∷ 1 ∷ 2 ∷ 2 ∷ [])) (1 ∷ 1 ∷ 1 ∷ 2 ∷ [])
  pub act_product_2 : ◌≡◌ {A = List ℕ} (act (Product (Name grigorchuk 0) (Name grigorchuk 1)) (1 ∷ 1 ∷ 2 ∷ 1 ∷ 2 ∷ [])) (2 ∷ 1 ∷ 1 ∷ 1 ∷ 2 ∷ [])
  pub act_product_3 : ◌≡◌ {A = List ℕ} (act (Product (Name grigorchuk 1) (Name grigorchuk 0)) (1 ∷ 1 ∷ 2 ∷ 1 ∷ 2 ∷ [])) (2 ∷ 2 ∷ 2 ∷ 1 ∷ 2 ∷ [])
  pub act_product_4 : ◌≡◌ {A = List ℕ} (act (Product (Product (Name grigorchuk 1) (Name grigorchuk 2)) (Name grigorchuk 3)) (1 ∷ 2 ∷ 2 ∷ 1 ∷ 1 ∷ 2 ∷ [])) (1 ∷ 2 ∷ 2 ∷ 1 ∷ 1 ∷ 2 ∷ [])
  pub act_section_1 : ◌≡◌ {A = List ℕ} (act (Section (Product (Name grigorchuk 0) (Name grigorchuk 1)) (1 ∷ [])) (1 ∷ 2 ∷ 1 ∷ 2 ∷ [])) (1 ∷ 1 ∷ 1 ∷ 2 ∷ [])
  pub act_section_2 : ◌≡◌ {A = List ℕ} (act (Section (Product (Name grigorchuk 0) (Name grigorchuk 2)) (1 ∷ 2 ∷ [])) (2 ∷ 1 ∷ 1 ∷ 1 ∷ [])) (2 ∷ 1 ∷ 2 ∷ 1 ∷ [])
  pub act_section_3 : ◌≡◌ {A = List ℕ} (act (Section (Section (Product (Product (Product (Name grigorchuk 0) (Name grigorchuk 1)) (Name grigorchuk 0)) (Name grigorchuk 2)) (2 ∷ [])) (1 ∷ [])) (2 ∷ 1 ∷ 1 ∷ 2 ∷ [])) (2 ∷ 1 ∷ 2 ∷ 2 ∷ [])
  pub act_section_4 : ◌≡◌ {A = List ℕ} (act (Section (Name grigorchuk 0) []) (2 ∷ 1 ∷ [])) (1 ∷ 1 ∷ [])
  pub back_section_1 : ◌≡◌ {A = List ℕ} (back (Section (Product (Name grigorchuk 0) (Name grigorchuk 1)) (1 ∷ [])) (1 ∷ 2 ∷ 1 ∷ 2 ∷ [])) (1 ∷ 1 ∷ 1 ∷ 2 ∷ [])

-- the basilica group
pub record BasilicaActs : Type 0 where
  pub act_1 : ◌≡◌ {A = List ℕ} (act (Name basilica 0) (2 ∷ 2 ∷ 1 ∷ 2 ∷ 1 ∷ [])) (2 ∷ 1 ∷ 1 ∷ 2 ∷ 1 ∷ [])
  pub act_product_1 : ◌≡◌ {A = List ℕ} (act (Product (Inverse (Name basilica 0)) (Name basilica 1)) (2 ∷ 2 ∷ 2 ∷ 1 ∷ 2 ∷ [])) (1 ∷ 1 ∷ 2 ∷ 1 ∷ 2 ∷ [])
  pub act_inverse_1 : ◌≡◌ {A = List ℕ} (act (Inverse (Product (Name basilica 0) (Name basilica 1))) (1 ∷ 2 ∷ 1 ∷ 2 ∷ 2 ∷ 1 ∷ [])) (2 ∷ 1 ∷ 2 ∷ 2 ∷ 1 ∷ 1 ∷ [])
  pub act_section_1 : ◌≡◌ {A = List ℕ} (act (Section (Inverse (Name basilica 1)) (2 ∷ 1 ∷ [])) (2 ∷ 2 ∷ 1 ∷ 2 ∷ [])) (2 ∷ 2 ∷ 1 ∷ 2 ∷ [])
  pub back_product_1 : ◌≡◌ {A = List ℕ} (back (Product (Name basilica 0) (Name basilica 1)) (1 ∷ 2 ∷ 1 ∷ 2 ∷ 2 ∷ 1 ∷ [])) (2 ∷ 1 ∷ 2 ∷ 2 ∷ 1 ∷ 1 ∷ [])

-- an element of linear growth
pub record LinearGrowthActs : Type 0 where
  pub act_1 : ◌≡◌ {A = List ℕ} (act (Name linear_growth 0) (1 ∷ 2 ∷ 2 ∷ 2 ∷ 2 ∷ [])) (1 ∷ 2 ∷ 1 ∷ 1 ∷ 1 ∷ [])
  pub act_inverse_1 : ◌≡◌ {A = List ℕ} (act (Inverse (Name linear_growth 0)) (2 ∷ 2 ∷ 1 ∷ 1 ∷ 2 ∷ [])) (2 ∷ 1 ∷ 1 ∷ 1 ∷ 2 ∷ [])

-- the lamplighter group
pub record LamplighterActs : Type 0 where
  pub act_1 : ◌≡◌ {A = List ℕ} (act (Name lamplighter 0) (1 ∷ 2 ∷ 1 ∷ 2 ∷ 2 ∷ 1 ∷ [])) (2 ∷ 2 ∷ 2 ∷ 2 ∷ 1 ∷ 2 ∷ [])
  pub act_inverse_1 : ◌≡◌ {A = List ℕ} (act (Inverse (Name lamplighter 0)) (1 ∷ 2 ∷ 1 ∷ 2 ∷ 2 ∷ 1 ∷ [])) (2 ∷ 1 ∷ 1 ∷ 2 ∷ 1 ∷ 1 ∷ [])
  pub act_section_1 : ◌≡◌ {A = List ℕ} (act (Section (Name lamplighter 2) (2 ∷ 2 ∷ [])) (2 ∷ 1 ∷ 2 ∷ 1 ∷ [])) (1 ∷ 2 ∷ 2 ∷ 2 ∷ [])

-- the adding machine over three letters
pub record TernaryAddingMachineActs : Type 0 where
  pub act_1 : ◌≡◌ {A = List ℕ} (act (Name ternary_adding_machine 0) (3 ∷ 3 ∷ 2 ∷ [])) (1 ∷ 1 ∷ 3 ∷ [])
  pub act_inverse_1 : ◌≡◌ {A = List ℕ} (act (Inverse (Name ternary_adding_machine 0)) (1 ∷ 1 ∷ 3 ∷ [])) (3 ∷ 3 ∷ 2 ∷ [])
  pub act_product_1 : ◌≡◌ {A = List ℕ} (act (Product (Product (Name ternary_adding_machine 0) (Name ternary_adding_machine 0)) (Inverse (Name ternary_adding_machine 0))) (3 ∷ 3 ∷ 2 ∷ 1 ∷ [])) (1 ∷ 1 ∷ 3 ∷ 1 ∷ [])
  pub act_section_1 : ◌≡◌ {A = List ℕ} (act (Section (Product (Name ternary_adding_machine 0) (Name ternary_adding_machine 0)) (3 ∷ [])) (3 ∷ 1 ∷ 2 ∷ [])) (1 ∷ 2 ∷ 2 ∷ [])
  pub act_section_2 : ◌≡◌ {A = List ℕ} (act (Section (Inverse (Name ternary_adding_machine 0)) (1 ∷ [])) (1 ∷ 3 ∷ 2 ∷ [])) (3 ∷ 2 ∷ 2 ∷ [])
  pub back_1 : ◌≡◌ {A = List ℕ} (back (Name ternary_adding_machine 0) (1 ∷ 1 ∷ 3 ∷ [])) (3 ∷ 3 ∷ 2 ∷ [])
  pub back_section_1 : ◌≡◌ {A = List ℕ} (back (Section (Name ternary_adding_machine 0) (3 ∷ 3 ∷ [])) (1 ∷ 2 ∷ 1 ∷ [])) (3 ∷ 1 ∷ 1 ∷ [])

-- a section word that cancels to a name
pub record CancellingActs : Type 0 where
  pub act_1 : ◌≡◌ {A = List ℕ} (act (Name cancelling 1) (2 ∷ 2 ∷ 2 ∷ 1 ∷ 2 ∷ [])) (1 ∷ 1 ∷ 1 ∷ 2 ∷ 2 ∷ [])
  pub act_product_1 : ◌≡◌ {A = List ℕ} (act (Product (Inverse (Name cancelling 1)) (Name cancelling 0)) (2 ∷ 1 ∷ 2 ∷ 2 ∷ 1 ∷ [])) (2 ∷ 1 ∷ 2 ∷ 2 ∷ 1 ∷ [])

-- a section word that is a square
pub record DoublingActs : Type 0 where
  pub act_product_1 : ◌≡◌ {A = List ℕ} (act (Product (Name doubling 0) (Name doubling 0)) (1 ∷ 2 ∷ 1 ∷ [])) (1 ∷ 2 ∷ 1 ∷ [])

-- Grigorchuk's group with a section that is a product
pub record GrigorchukWithProductActs : Type 0 where
  pub act_1 : ◌≡◌ {A = List ℕ} (act (Name grigorchuk_with_product 4) (1 ∷ 1 ∷ 2 ∷ 2 ∷ 1 ∷ [])) (1 ∷ 1 ∷ 2 ∷ 2 ∷ 1 ∷ [])
  pub act_section_1 : ◌≡◌ {A = List ℕ} (act (Section (Name grigorchuk_with_product 4) (1 ∷ [])) (2 ∷ 2 ∷ 1 ∷ 1 ∷ 2 ∷ [])) (2 ∷ 2 ∷ 1 ∷ 2 ∷ 2 ∷ [])
  pub act_inverse_1 : ◌≡◌ {A = List ℕ} (act (Inverse (Section (Name grigorchuk_with_product 4) (2 ∷ 1 ∷ []))) (1 ∷ 2 ∷ 2 ∷ [])) (1 ∷ 2 ∷ 2 ∷ [])

-- numbers that are no letters, and names past the table, leave all as it is
pub record StrangersStay : Type 0 where
  pub name_past_table : ◌≡◌ {A = List ℕ} (act (Name adding_machine 5) (2 ∷ 1 ∷ [])) (2 ∷ 1 ∷ [])
  pub no_letter : ◌≡◌ {A = List ℕ} (act (Name adding_machine 0) (3 ∷ 2 ∷ [])) (3 ∷ 2 ∷ [])
  pub zero_letter : ◌≡◌ {A = List ℕ} (back (Name adding_machine 0) (2 ∷ 0 ∷ 2 ∷ [])) (1 ∷ 0 ∷ 2 ∷ [])
