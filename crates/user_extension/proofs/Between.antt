-- What the rows between two places, which are of one kind, have of a name.
use Rattle.std.proofs.Common.{◌≡◌, ◌≢◌, ℕ, suc, ◌+◌, ◌-◌, ◌<◌, ◌≤◌, List, [], length, get_or, take, drop, None, sym, ap, ◌∙◌, arith}
use Rattle.std.proofs.lemmas.List.{get_or-take, get_or-drop, length-take, length-drop}
use Rattle.ti_layout.specs.declared.layout.Format.{Format}
use Rattle.ti_layout.specs.declared.layout.Format.TheVariants.{Legacy}
use Rattle.ti_layout.specs.Reading.{count_in}
use Rattle.user_extension.specs.Reading.{Parts, ReadRow, name_in, name_table, rows_in, said, value_in}
use Rattle.user_extension.specs.inside.View.{IsOfOneKind, RiseByKind}
use Rattle.user_extension.proofs.Named.{Rises, apart, said_none, said_one}
use Rattle.user_extension.proofs.Rows.{rows_long, row_at}

module _ (w : Format) (p : Parts) (tail : List ℕ) (rest : tail ≡ name_table p.values p.table) (low high : ℕ) (within : high ≤ count_in Legacy p.names) where
  abbrev rows : List ReadRow
  rows = take (high - low) (drop low (rows_in w p))

  long : length rows ≡ high - low
  long = let n = rows_long w p in omega (arith, length-take (high - low) (drop low (rows_in w p)), length-drop low (rows_in w p), n, within)

  row_is : (k i : ℕ) → k < high - low → i ≡ low + k → get_or rows k ([], None) ≡ (name_in p.names tail i, value_in w p i)
  row_is k i lt e =
      get_or-take (high - low) (drop low (rows_in w p)) k ([], None) lt ∙ get_or-drop low (rows_in w p) k ([], None)
      ∙ ap (λ (j : ℕ). get_or (rows_in w p) j ([], None)) (sym e) ∙ row_at w p i ([], None) (omega (arith, lt, e, within))
      ∙ ap (λ (t : List ℕ). (name_in p.names t i, value_in w p i)) (sym rest)

  pub none_between : (name : List ℕ) → ((k : ℕ) → low ≤ k → k < high → name_in p.names tail k ≢ name) → said rows name ≡ None
  none_between name h = said_none rows name (λ k lt same.
      let l : k < high - low = omega (arith, lt, long) in
      let is = ap (λ (r : ReadRow). r.0) (row_is k (low + k) l (omega arith)) in
      h (low + k) (omega arith) (omega (arith, l)) (sym is ∙ same))

  module _ (second third : ℕ) (rise : RiseByKind second third p.names tail) (kind : IsOfOneKind second third low high) where
    pub rises : Rises (name_in p.names tail) low high
    rises k le lt = let apart = kind (suc k) (omega (arith, le)) lt in rise k (omega (arith, lt, within)) apart.0 apart.1

    pub one_between : (name : List ℕ) (place : ℕ) → low ≤ place → place < high → name_in p.names tail place ≡ name → said rows name ≡ value_in w p place
    one_between name place le lt e =
        let here = row_is (place - low) place (omega (arith, le, lt)) (omega (arith, le)) in
        said_one rows name (place - low) (omega (arith, long, le, lt)) (ap (λ (r : ReadRow). r.0) here ∙ e)
        (λ k l n same.
        let kl : k < high - low = omega (arith, l, long) in
        let is = ap (λ (r : ReadRow). r.0) (row_is k (low + k) kl (omega arith)) in
        apart (name_in p.names tail) low high place (low + k) name rises le lt e (omega arith) (omega (arith, kl)) (omega (arith, n, le)) (sym is ∙ same))
        ∙ ap (λ (r : ReadRow). r.1) here
