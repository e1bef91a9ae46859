-- Plans whose counts stand at places of a list of allowed counts.
use Rattle.std.specs.Prelude.{ℕ, suc, ◌≤◌, ◌<◌, ◌≡◌, true, List, [], ◌∷◌, ◌++◌, length, get_or}
use Rattle.basics.specs.Core.{sym, ◌∙◌, ⊎_elim, arith, get_or_at}
use Rattle.basics.specs.Numbers.{le_or_lt}
use Rattle.basics.specs.Tests.{every_at, every_all}
use Rattle.basics.specs.Members.{snoc_before}
use Rattle.model.specs.Instance.{Instance}
use Rattle.model.specs.Counts.{can_serve}
use Rattle.model.specs.Plans.{Member, Allowed, plan_serves}
use Rattle.thresholds.specs.Places.{count_at_place}

module _ (i : Instance) (counts : List ℕ) where
  -- Each count of an allowed plan serves its slot's load.
  pub allowed_serves : {p : List ℕ} → Allowed i counts p → (t : ℕ) → t < i.slots → can_serve i (get_or p t 0) (i.load t) ≡ true
  unfolding plan_serves
  allowed_serves {p} a = every_at i.slots (λ t. can_serve i (get_or p t 0) (i.load t)) a.served

  -- A plan whose counts are from the list and serve their slots' loads is allowed.
  pub serves_allowed :
      (p : List ℕ) → length p ≡ i.slots →
      ((t : ℕ) → t < i.slots → Member (get_or p t 0) counts × (can_serve i (get_or p t 0) (i.load t) ≡ true)) → Allowed i counts p
  unfolding plan_serves
  serves_allowed p e slot =
      record {
        slotwise = e;
        member = λ t h. (slot t h).0;
        served = every_all i.slots (λ t. can_serve i (get_or p t 0) (i.load t)) (λ t h. (slot t h).1);
      }

  -- In the first t slots each count of a plan stands at a place that serves.
  abbrev pub Placed : List ℕ → ℕ → Type 0
  Placed p t =
      (u : ℕ) → u < t →
      (k : ℕ) × (k < length counts) × (count_at_place counts k ≡ get_or p u 0) × (can_serve i (count_at_place counts k) (i.load u) ≡ true)

  -- A place that serves slot t may follow the first t slots.
  pub placed_snoc :
      (p : List ℕ) (t k : ℕ) → length p ≡ t → Placed p t → k < length counts →
      can_serve i (count_at_place counts k) (i.load t) ≡ true → Placed (p ++ (count_at_place counts k ∷ [])) (suc t)
  placed_snoc p t k e placed inside serves u h =
      ⊎_elim
      (λ (last : t ≤ u).
      let same : u ≡ t = omega arith in
      (k, inside, sym (get_or_at p (count_at_place counts k) [] 0 u (e ∙ sym same)), rw same serves))
      (λ (before : u < t).
      let (c, within, here, can) = placed u before in
      (c, within, here ∙ sym (snoc_before p (count_at_place counts k) 0 t u e before), can))
      (le_or_lt t u)

  -- The counts of an allowed plan stand at places that serve.
  pub placed_of : {p : List ℕ} → Allowed i counts p → Placed p i.slots
  placed_of {p} a u h = let (k, inside, here) = a.member u h in (k, inside, here, rw here (allowed_serves a u h))

  -- A plan whose counts stand at places that serve is allowed.
  pub allowed_of : (p : List ℕ) → length p ≡ i.slots → Placed p i.slots → Allowed i counts p
  allowed_of p e placed =
      serves_allowed p e (λ t h. let (k, inside, here, serves) = placed t h in ((k, inside, here), rw here at serves))
