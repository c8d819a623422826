-- Numbers of sorts, and the sorts that are reached.
use Rattle.std.specs.Prelude.{ℕ, List, refl}
use Rattle.std.specs.Coded.{Coded, code_by, coded×, coded_ℕ, coded_list}

pub record Reached : Type 0 where
  pub most : ℕ
  pub least : List ℕ
  pub sorts : List ℕ

abbrev pub reached_code : Coded Reached
reached_code =
    code_by (ℕ × (List ℕ × List ℕ)) (coded× coded_ℕ (coded× (coded_list coded_ℕ) (coded_list coded_ℕ)))
    (λ r. (r.most, (r.least, r.sorts)))
    (λ p. record { most = p.0; least = p.1.0; sorts = p.1.1 })
    (λ _. refl)
