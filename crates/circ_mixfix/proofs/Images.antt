-- Images of sets of which at most two members are kept.
use Rattle.std.proofs.Common.{◌≡◌, ◌⊎◌, inl, inr, refl}
use Rattle.circ_chart.specs.Few.{Enough, Differ}
use Rattle.circ_mixfix.specs.Found.{Image}

pub enough_image : {X Y : Type 0} (f : X → Y) (E P : X → Type 0) → ((x y : X) → P x → P y → f x ≡ f y → x ≡ y) → Enough E P → Enough (Image f E) (Image f P)
enough_image f E P inj a = record {
  sound = λ y h. record { from = h.from; has = a.sound h.from h.has; is = h.is };
  enough = λ y h. go y h (a.enough h.from h.has);
}
  where
    put : (x : _) → E x → Image f E (f x)
    put x e = record { from = x; has = e; is = refl }

    go : (y : _) (h : Image f P y) → (E h.from ⊎ Differ E) → Image f E y ⊎ Differ (Image f E)
    go y h (inl e) = inl (record { from = h.from; has = e; is = h.is })
    go y h (inr d) = inr (record {
      first = f d.first;
      second = f d.second;
      in_first = put d.first d.in_first;
      in_second = put d.second d.in_second;
      apart = λ q. d.apart (inj d.first d.second (a.sound d.first d.in_first) (a.sound d.second d.in_second) q);
    })
