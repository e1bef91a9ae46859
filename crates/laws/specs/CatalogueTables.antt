-- The catalogue module's table (document 02, §5): each test of a whole table, turned into the fact at each entry, `entry_is`, `entry_convex`,
-- `entry_rises`, and what follows for cards, `catalogue_card`.
use Rattle.std.specs.Prelude.{ℕ, zero, suc, ◌+◌, ◌-◌, ◌*◌, ◌/◌, ◌^◌, ◌≤◌, ◌<◌, ◌≡◌, refl, true, List}
use Rattle.basics.specs.Core.{sym, ◌∙◌, mul-le-mul, arith, eqb-true, le-leb}
use Rattle.basics.specs.Tests.{every_at, every_all}
use Rattle.model.specs.Instance.{instance_of, table_of, table_in_range}
use Rattle.model.specs.Catalogue.{catalogue_entry, catalogue_top, catalogue_size, entry_of, follows_rule, TestedTable, catalogue_bytes}
use Rattle.model.specs.Promises.{HasCatalogueTable}
use Rattle.laws.specs.Tables.{Convex, NeverFalls, convex_test, never_falls_test, same_range, same_convex, same_rise}
use Rattle.laws.specs.CardTables.{table_read, accepted_by_others}

-- Halving the product of a number and the one before it leaves no rest.
halved : (k : ℕ) → 2 * (k * (k - 1) / 2) ≡ k * (k - 1)
halved zero = refl
halved (suc k) =
    let less : suc k - 1 ≡ k = omega arith in
    rw less (even (suc k * k) (k * (k - 1)) k (halved k) (next k))
  where
    next : (k : ℕ) → suc k * k ≡ k * (k - 1) + 2 * k
    next zero = refl
    next (suc k) =
        let less : suc k - 1 ≡ k = omega arith in
        rw less (omega arith)

    even : (a b c : ℕ) → 2 * (b / 2) ≡ b → a ≡ b + 2 * c → 2 * (a / 2) ≡ a
    even a b c e d = omega arith

-- The rule without a division: 2F(k) = 800 + 6k + k(k − 1).
pub catalogue_doubled : (k : ℕ) → 2 * catalogue_entry k ≡ 800 + 6 * k + k * (k - 1)
unfolding catalogue_entry
catalogue_doubled k = omega (arith, halved k)

-- The product of the rule is at most 200 × 199.
pub product_most : (k : ℕ) → k ≤ catalogue_top → k * (k - 1) ≤ 39800
product_most k h =
    let less : k - 1 ≤ 199 = omega arith in
    omega (arith, mul-le-mul h less)

-- No entry is above the last one.
catalogue_most : (k : ℕ) → k ≤ catalogue_top → catalogue_entry k ≤ 20900
unfolding catalogue_entry
catalogue_most k h = omega (arith, product_most k h)

-- Every entry keeps the bound of a card's entries.
pub catalogue_in_range : (top : ℕ) → top ≤ catalogue_top → table_in_range top catalogue_entry ≡ true
unfolding table_in_range
catalogue_in_range top h =
    every_all (top + 1) _ (λ k g. le-leb (catalogue_entry k) 1000000 (omega (arith, catalogue_most k (omega arith))))

-- Every entry fits the bytes of its field.
pub catalogue_fits : (k : ℕ) → k ≤ catalogue_top → catalogue_entry k < 256 ^ 4
catalogue_fits k h = omega (arith, catalogue_most k h)

-- A table that passes the three tests.
module _ {table : List ℕ} (tested : TestedTable table) where
  -- Each of its entries is the rule's.
  pub entry_is : (k : ℕ) → k ≤ catalogue_top → entry_of table k ≡ catalogue_entry k
  unfolding follows_rule
  entry_is k h = eqb-true _ _ (every_at catalogue_size _ tested.rule k (omega arith))

  -- The rule is convex at each entry.
  pub entry_convex : Convex catalogue_top catalogue_entry
  entry_convex = (convex_test catalogue_top catalogue_entry).0 (sym (same_convex catalogue_top entry_is) ∙ tested.convexity)

  -- The rule falls at no entry.
  pub entry_rises : NeverFalls catalogue_top catalogue_entry
  entry_rises = (never_falls_test catalogue_top catalogue_entry).0 (sym (same_rise catalogue_top entry_is) ∙ tested.rise)

  -- Every card that has the rule's entries as its table has the catalogue module's table.
  pub catalogue_card :
      (card : List ℕ) → (instance_of card).top_step ≤ catalogue_top → table_of card ≡ catalogue_bytes (instance_of card).top_step →
      HasCatalogueTable card
  unfolding catalogue_bytes
  catalogue_card card h has =
      let q = (instance_of card).top_step in
      let read = table_read card catalogue_entry (λ k g. catalogue_fits k (omega arith)) has in
      let ranged = same_range q read ∙ catalogue_in_range q h in
      let convexity = same_convex q read ∙ (convex_test q catalogue_entry).1 (λ k g. entry_convex k (omega arith)) in
      record {
        entries = read;
        in_range = ranged;
        convexity = convexity;
        never_falls = same_rise q read ∙ (never_falls_test q catalogue_entry).1 (λ k g. entry_rises k (omega arith));
        accepted = accepted_by_others card ranged convexity;
      }
