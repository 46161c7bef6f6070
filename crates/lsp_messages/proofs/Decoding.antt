-- A body is read if it is JSON in UTF-8, and a step of mending it.
use Rattle.std.proofs.Common.{ℕ, suc, ◌≡◌, ◌+◌, ◌-◌, ◌<◌, List, [], ◌∷◌, ◌++◌, add-one, append_assoc, drop, get_or, length, take, None, Some, inl, inr}
use Rattle.std.proofs.Common.{refl, sym, ap, subst, ◌∙◌, arith}
use Rattle.std.specs.Str.{IsUtf8, is_utf8}
use Rattle.std.proofs.Math.Seq.{drop-cons}
use Rattle.std.proofs.lemmas.Bool.{cases_Bool}
use Rattle.std.proofs.lemmas.List.{length-drop, take_all}
use Rattle.std.proofs.lemmas.Str.{IsUtf8-from_is_utf8, is_utf8-from_IsUtf8}
use Rattle.serde_json.specs.Data.{Data}
use Rattle.serde_json.specs.Read.{read}
use Rattle.lsp_messages.specs.Bodies.{byte_for, exchanged_next, kept_next, repair, value_in}

pub value_found : (text : List ℕ) (d : Data) → IsUtf8 text → read text ≡ Some d → Some d ≡ value_in text
value_found text d utf8 is = rw (is_utf8-from_IsUtf8 text utf8) (sym is)

pub no_value : (text : List ℕ) → (IsUtf8 text → read text ≡ None) → None ≡ value_in text
no_value text none = elim (cases_Bool (is_utf8 text)) [ inl t ↦ rw t (sym (none (IsUtf8-from_is_utf8 text t))) | inr f ↦ rw f refl ]

-- ---- one more byte

-- so many bytes are to be kept and then to be exchanged, and these are made
abbrev pub Repairs : List ℕ → (at kept exchanged : ℕ) → List ℕ → Type 0
Repairs text at kept exchanged all = all ++ repair kept exchanged (drop at text) ≡ repair 0 0 text

pub repairs_more : (text all : List ℕ) (at kept exchanged : ℕ) → at < length text → Repairs text at kept exchanged all
    → Repairs text (at + 1) (kept_next kept exchanged (drop at text)) (exchanged_next kept exchanged (drop at text))
    (all ++ byte_for kept exchanged (get_or text at 0) ∷ [])
repairs_more text all at kept exchanged within so =
    let byte = byte_for kept exchanged (get_or text at 0) in
    let cut : drop at text ≡ get_or text at 0 ∷ drop (suc at) text = drop-cons text at 0 within in
    let next = repair (kept_next kept exchanged (drop at text)) (exchanged_next kept exchanged (drop at text)) (drop (at + 1) text) in
    let one : repair kept exchanged (drop at text) ≡ byte ∷ next =
    subst (λ (t : List ℕ). repair kept exchanged t ≡ byte ∷ repair (kept_next kept exchanged t) (exchanged_next kept exchanged t) (drop (at + 1) text))
    (sym cut)
    (ap (λ (n : ℕ). byte ∷ repair (kept_next kept exchanged (get_or text at 0 ∷ drop (suc at) text))
    (exchanged_next kept exchanged (get_or text at 0 ∷ drop (suc at) text)) (drop n text)) (sym (add-one at))) in
    append_assoc all (byte ∷ []) next ∙ ap (λ (t : List ℕ). all ++ t) (sym one) ∙ so

-- the same as the loop is told
pub repairs_told : (text all pushed : List ℕ) (at kept exchanged kept_now exchanged_now byte : ℕ) → at < length text → Repairs text at kept exchanged all
    → byte ≡ byte_for kept exchanged (get_or text at 0) → kept_now ≡ kept_next kept exchanged (take (length text - at) (drop at text))
    → exchanged_now ≡ exchanged_next kept exchanged (take (length text - at) (drop at text)) → pushed ≡ all ++ byte ∷ []
    → Repairs text (at + 1) kept_now exchanged_now pushed
repairs_told text all pushed at kept exchanged kept_now exchanged_now byte within so b k x p =
    let rest : take (length text - at) (drop at text) ≡ drop at text = take_all (length text - at) (drop at text) (omega (arith, length-drop at text)) in
    rw (p, b, k, x, rest) (repairs_more text all at kept exchanged within so)
