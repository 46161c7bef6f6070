-- Two assignments of names to blocks that agree except at some names: what does not reach those is
-- equal in both.
use Rattle.std.proofs.Common.{◌≡◌, ℕ, zero, suc, inl, inr, Bool, true, false, cond, List, [], ◌∷◌, Option, Some, None, option_and_then, refl, sym, ◌∙◌, ap}
use Rattle.std.proofs.lemmas.Bool.{cases_Bool}
use Rattle.ti_source.specs.declared.parsing.Rule.{Rule}
use Rattle.ti_source.specs.declared.parsing.Rule.TheVariants.{Leftmost, OwnFirst}
use Rattle.ti_source.specs.Reading.{Reading, ReadItem, Said, said_flag, said_number, said_text, said_cancel, said_import}
use Rattle.ti_layout.specs.Values.{Mention}
use Rattle.base_meaning.specs.Expansion.{is_broken, mentions_of, expand_items, own_items, use_items, block_mentions, expand}
use Rattle.base_meaning.specs.Reaching.{used_name, Uses, IsUseWay}
use Rattle.base_meaning.specs.ValueTables.{names_at}
use Rattle.base_meaning.proofs.Ruling.{own-uses, use-uses}

abbrev pub Env : Type 0
Env = List ℕ → Option Reading

-- the assignments agree if the test fails
abbrev pub AgreeOff : (List ℕ → Bool) → Env → Env → Type 0
AgreeOff test e f = (name : List ℕ) → test name ≡ false → e name ≡ f name

-- no way from the name leads to one that passes the test
abbrev pub IsFree : Env → (List ℕ → Bool) → List ℕ → Type 0
IsFree env test name = (way : List (List ℕ)) (to : List ℕ) → IsUseWay env name way to → test to ≡ false

-- ---- one item and all items

mentions_of-agree : (f g : List ℕ → Option (List Mention)) (s : Said) → ((n : List ℕ) → used_name s ≡ Some n → f n ≡ g n) → mentions_of f s ≡ mentions_of g s
mentions_of-agree f g (said_flag c) h = refl
mentions_of-agree f g (said_number c n) h = refl
mentions_of-agree f g (said_text c t) h = refl
mentions_of-agree f g (said_cancel c) h = refl
mentions_of-agree f g (said_import n) h = h n refl

pub expand_items-agree : (f g : List ℕ → Option (List Mention)) (items : List ReadItem) → ((n : List ℕ) → Uses items n → f n ≡ g n)
    → expand_items f items ≡ expand_items g items
expand_items-agree f g [] h = refl
expand_items-agree f g (i ∷ is) h =
    rw (mentions_of-agree f g i.said (λ n u. h n (inl u)), expand_items-agree f g is (λ n u. h n (inr u))) refl

block-agree : (r : Rule) (f g : List ℕ → Option (List Mention)) (items : List ReadItem) → ((n : List ℕ) → Uses items n → f n ≡ g n)
    → block_mentions r f items ≡ block_mentions r g items
block-agree Leftmost f g items h = expand_items-agree f g items h
block-agree OwnFirst f g items h =
    rw (expand_items-agree f g (own_items items) (λ n u. h n (own-uses items n u)), expand_items-agree f g (use_items items) (λ n u. h n (use-uses items n u)))
    refl

-- ---- expansions

and_then-agree : (o : Option Reading) (f g : Reading → Option (List Mention)) → ((b : Reading) → o ≡ Some b → f b ≡ g b)
    → option_and_then f o ≡ option_and_then g o
and_then-agree None f g h = refl
and_then-agree (Some b) f g h = h b refl

-- if a block's uses are free, its expansion is equal in both
pub expand-kept : (test : List ℕ → Bool) (e f : Env) → AgreeOff test e f → (depth : ℕ) (b : Reading) → ((n : List ℕ) → Uses b.items n → IsFree e test n)
    → expand f depth b ≡ expand e depth b
expand-kept test e f agree zero b free = refl
expand-kept test e f agree (suc k) b free =
    ap (λ o. cond (is_broken b) None o) (block-agree b.rule (names_at f k) (names_at e k) b.items (λ n u.
    ap (λ o. option_and_then (expand f k) o) (sym (agree n (free n u [] n refl)))
    ∙ and_then-agree (e n) (expand f k) (expand e k) (λ c own. expand-kept test e f agree k c (λ m v way to w. free n u (m ∷ way) to ((c, own, v), w)))))

-- ---- ways

-- a way from a free name in one assignment is a way in the other too
pub way-kept : (test : List ℕ → Bool) (e f : Env) → AgreeOff test e f → (way : List (List ℕ)) (from to : List ℕ) → IsFree e test from
    → IsUseWay e from way to → IsUseWay f from way to
way-kept test e f agree [] from to free w = w
way-kept test e f agree (x ∷ way) from to free w =
    let same : e from ≡ f from = agree from (free [] from refl) in
    ((w.0.0, sym same ∙ w.0.1, w.0.2), way-kept test e f agree way x to (λ rest last v. free (x ∷ rest) last (w.0, v)) w.1)

-- each way from it in the other assignment is a way in the first
pub way-back : (test : List ℕ → Bool) (e f : Env) → AgreeOff test e f → (way : List (List ℕ)) (from to : List ℕ) → IsFree e test from
    → IsUseWay f from way to → IsUseWay e from way to
way-back test e f agree [] from to free w = w
way-back test e f agree (x ∷ way) from to free w =
    let same : e from ≡ f from = agree from (free [] from refl) in
    let step : (b : Reading) × (e from ≡ Some b) × Uses b.items x = (w.0.0, same ∙ w.0.1, w.0.2) in
    (step, way-back test e f agree way x to (λ rest last v. free (x ∷ rest) last (step, v)) w.1)

-- what is free in one assignment is free in the other
pub way-free : (test : List ℕ → Bool) (e f : Env) → AgreeOff test e f → (from : List ℕ) → IsFree e test from → IsFree f test from
way-free test e f agree from free = λ way to w. free way to (way-back test e f agree way from to free w)

-- some way leads from the name to one that passes the test
abbrev pub LeadsIn : Env → (List ℕ → Bool) → List ℕ → Type 0
LeadsIn env test from = (way : List (List ℕ)) × (to : List ℕ) × IsUseWay env from way to × (test to ≡ true)

-- if there is such a way in one assignment, there is one in the other
pub way-both : (test : List ℕ → Bool) (e f : Env) → AgreeOff test e f → (way : List (List ℕ)) (from to : List ℕ) → IsUseWay e from way to → test to ≡ true
    → LeadsIn f test from
way-both test e f agree [] from to w t = ([], to, w, t)
way-both test e f agree (x ∷ way) from to w t =
    elim (cases_Bool (test from)) [
      | inl here ↦ ([], from, refl, here)
      | inr off ↦
          let rest = way-both test e f agree way x to w.1 t in
          (x ∷ rest.0, rest.1, ((w.0.0, sym (agree from off) ∙ w.0.1, w.0.2), rest.2), rest.3)
    ]
