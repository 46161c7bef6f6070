-- What is left of a format, one token after another.
use Rattle.std.proofs.Common.{◌≡◌, ℕ, suc, ◌+◌, ◌-◌, ◌<◌, ◌≤◌, true, false, ◌⊎◌, inl, inr, List, [], ◌∷◌, ◌++◌, length, refl, ap, sym, subst, ◌∙◌, arith}
use Rattle.std.specs.Prelude.{Option, Some, None, is_some, MatchOption, ◌==◌}
use Rattle.std.proofs.lemmas.Bool.Decides.{Decides-eqb}
use Rattle.ti_formats.specs.declared.codes.Code.{Code}
use Rattle.ti_formats.specs.declared.codes.Token.{Token}
use Rattle.ti_formats.specs.declared.codes.Token.TheVariants.{Operation, If, Then, Else, EndIf}
use Rattle.ti_formats.specs.declared.codes.Placed.{Placed}
use Rattle.ti_formats.specs.Formats.{placed_token}
use Rattle.ti_formats.specs.Codes.{IsCode, simple_code, parameter_code, store_code, fetch_code, byte_code, number_code, print_code, simple_tokens}
use Rattle.ti_formats.specs.inside.Codes.{Front, code_of, token_after, letter_after}
use Rattle.ti_formats.specs.Reading.{Scan}
use Rattle.ti_formats.specs.Reading.{Phase, Unread}
use Rattle.ti_formats.specs.Left.{left_of}
use Rattle.ti_formats.specs.inside.Formats.{with_token, scan, phases_after, accepted, accepted_of, first_token, front_of, refusal}
use Rattle.ti_formats.proofs.Accepting.{advanced_all, gone_on}
use Rattle.ti_formats.proofs.Fronts.{found-row}
use Rattle.ti_formats.proofs.Reading.{code_so}
use Rattle.ti_formats.proofs.Scanning.{piece_of, piece-scan, piece-shorter, scan-nothing, stop-before-end, tokens-few}

-- ---- the front of a text

front-scan : (place : ℕ) (text rest : List ℕ) (token : Token) → front_of text ≡ Some (token, rest) →
    scan 0 place text ≡ with_token place token (scan 0 (place + (length text - length rest)) rest)
front-scan place [] rest token h = absurd (cc h)
front-scan place (b ∷ after) rest token h = piece-scan place b (b ∷ after) after token rest refl (piece_of b after token rest (sym h))

pub front-shorter : (text rest : List ℕ) (token : Token) → front_of text ≡ Some (token, rest) → length rest < length text
front-shorter [] rest token h = absurd (cc h)
front-shorter (b ∷ after) rest token h = omega (arith, piece-shorter b after token rest (piece_of b after token rest (sym h)))

front-none : (place : ℕ) (text : List ℕ) → front_of text ≡ None → (scan 0 place text).tokens ≡ []
unfolding scan
front-none place [] h = refl
front-none place (b ∷ after) h = scan-nothing place b (b ∷ after) after refl (sym h)

-- after a `%`
pub front-percent : (text after : List ℕ) (b : ℕ) → text ≡ b ∷ after → b ≡ 37 → front_of text ≡ token_after after
front-percent text after b begins at = ap front_of begins ∙ ap (λ x. first_token x after) at

-- the letters of the marks of a conditional
abbrev pub IsMarked : ℕ → Type 0
IsMarked x = (x ≡ 63) ⊎ ((x ≡ 116) ⊎ ((x ≡ 101) ⊎ (x ≡ 59)))

abbrev BeginsMarked : List ℕ → Type 0
BeginsMarked [] = ⊥
BeginsMarked (x ∷ xs) = IsMarked x

pub if-read : (rest : List ℕ) → token_after (63 ∷ rest) ≡ Some (If, rest)
unfolding token_after letter_after
if-read rest = refl

pub then-read : (rest : List ℕ) → token_after (116 ∷ rest) ≡ Some (Then, rest)
unfolding token_after letter_after
then-read rest = refl

pub else-read : (rest : List ℕ) → token_after (101 ∷ rest) ≡ Some (Else, rest)
unfolding token_after letter_after
else-read rest = refl

pub end-read : (rest : List ℕ) → token_after (59 ∷ rest) ≡ Some (EndIf, rest)
unfolding token_after letter_after
end-read rest = refl

-- a mark at the front
pub front-mark : (text after rest : List ℕ) (b x y : ℕ) (token : Token) → text ≡ b ∷ after → b ≡ 37 → after ≡ x ∷ rest → x ≡ y →
    token_after (y ∷ rest) ≡ Some (token, rest) → front_of text ≡ Some (token, rest)
front-mark text after rest b x y token begins at goes_on letter read =
    front-percent text after b begins at ∙ ap token_after (goes_on ∙ ap (λ z. z ∷ rest) letter) ∙ read

-- a code is a mark or is by itself
mark_or_code : (text : List ℕ) (token : Token) → IsCode text token → BeginsMarked text ⊎ ((c : Code) × (token ≡ Operation c))
mark_or_code text token (simple_code x row) =
    found-row (λ r. IsMarked r.0 ⊎ ((c : Code) × (r.1 ≡ Operation c))) x simple_tokens token (
      inr (_, refl),
      (
        inr (_, refl),
        (
          inr (_, refl),
          (
            inr (_, refl),
            (
              inr (_, refl),
              (
                inr (_, refl),
                (
                  inl (inl refl),
                  (
                    inl (inr (inl refl)),
                    (
                      inl (inr (inr (inl refl))),
                      (
                        inl (inr (inr (inr refl))),
                        (
                          inr (_, refl),
                          (
                            inr (_, refl),
                            (
                              inr (_, refl),
                              (
                                inr (_, refl),
                                (
                                  inr (_, refl),
                                  (
                                    inr (_, refl),
                                    (
                                      inr (_, refl),
                                      (
                                        inr (_, refl),
                                        (inr (_, refl), (inr (_, refl), (inr (_, refl), (inr (_, refl), (inr (_, refl), tt))))),
                                      ),
                                    ),
                                  ),
                                ),
                              ),
                            ),
                          ),
                        ),
                      ),
                    ),
                  ),
                ),
              ),
            ),
          ),
        ),
      ),
    ) row
mark_or_code text token (parameter_code x named) = inr (_, refl)
mark_or_code text token (store_code x named) = inr (_, refl)
mark_or_code text token (fetch_code x named) = inr (_, refl)
mark_or_code text token (byte_code x) = inr (_, refl)
mark_or_code text token (number_code ds digits some small) = inr (_, refl)
mark_or_code text token (print_code _ is_directive) = inr (_, refl)

-- if no code by itself is read after a letter that begins no mark, none is read
pub code-none : (text : List ℕ) (x : ℕ) (rest : List ℕ) → text ≡ x ∷ rest → None ≡ code_of (token_after text) → (IsMarked x → ⊥) → token_after text ≡ None
code-none text x rest begins none other = by_found (token_after text) refl
  where
    head : (front r : List ℕ) → x ∷ rest ≡ front ++ r → BeginsMarked front → IsMarked x
    head [] r e marked = absurd marked
    head (y ∷ ys) r e marked = let same : y ≡ x = cc e in subst IsMarked same marked

    by_found : (found : Front Token) → token_after text ≡ found → token_after text ≡ None
    by_found None e = e
    by_found (Some (token, r)) e =
        let (front, whole, is_code) = code_so text r token e in
        elim (mark_or_code front token is_code) [
          | inl marked ↦ absurd (other (head front r (sym begins ∙ whole) marked))
          | inr (c, is) ↦
              let clash : ◌≡◌ {A = Front Code} None (Some (c, r)) = none ∙ ap code_of e ∙ ap (λ t. code_of (Some (t, r))) is in
              absurd (cc clash)
        ]

-- ---- the tokens that may come

accepted-go : (place : ℕ) (token : Token) (phases opened : List Phase) (tokens : List Placed) (stop : Option ℕ) → phases_after phases token ≡ Some opened →
    accepted phases (placed_token place token ∷ tokens) stop ≡ with_token place token (accepted opened tokens stop)
unfolding accepted
accepted-go place token phases opened tokens stop step = rw (step, accepted) refl

pub accepted-here : (place : ℕ) (token : Token) (phases : List Phase) (tokens : List Placed) (stop : Option ℕ) → phases_after phases token ≡ None →
    accepted phases (placed_token place token ∷ tokens) stop ≡ record { tokens = []; stop = Some place }
unfolding accepted
accepted-here place token phases tokens stop step = rw (step, accepted) refl

pub accepted-none : (phases : List Phase) (tokens : List Placed) (stop : Option ℕ) → tokens ≡ [] → accepted phases tokens stop ≡ record { tokens = []; stop = stop }
unfolding accepted
accepted-none phases tokens stop none = rw none refl

accepted-few : (phases : List Phase) (tokens : List Placed) (stop : Option ℕ) → length (accepted phases tokens stop).tokens ≤ length tokens
unfolding accepted
accepted-few phases [] stop = omega arith
accepted-few phases (p ∷ tokens) stop =
    elim (phases_after phases p.token) as (λ d. length (step p tokens stop d).tokens ≤ length (p ∷ tokens)) [
      | None ↦ omega arith
      | Some opened ↦ omega (arith, accepted-few opened tokens stop)
    ]
  where
    step : Placed → List Placed → Option ℕ → Option (List Phase) → Scan
    step p tokens stop d = elim d as (λ _. Scan) [
      | None ↦ record { tokens = []; stop = Some p.place }
      | Some opened ↦ record { tokens = p ∷ (accepted opened tokens stop).tokens; stop = (accepted opened tokens stop).stop }
    ]

pub accepted-tokens-few : (phases : List Phase) (s : Scan) → length (accepted_of phases s).tokens ≤ length s.tokens
accepted-tokens-few phases s = accepted-few phases s.tokens s.stop

-- the place where the acceptor stops
pub accepted-stop : (phases : List Phase) (tokens : List Placed) (stop : Option ℕ) → (accepted phases tokens stop).stop ≡ refusal phases tokens stop
unfolding accepted refusal
accepted-stop phases [] stop = refl
accepted-stop phases (p ∷ tokens) stop =
    elim (phases_after phases p.token) as (λ d. (elim d as (λ _. Scan) [
      | None ↦ record { tokens = []; stop = Some p.place }
      | Some opened ↦ record { tokens = p ∷ (accepted opened tokens stop).tokens; stop = (accepted opened tokens stop).stop }
    ]).stop ≡ elim d as (λ _. Option ℕ) [ None ↦ Some p.place | Some opened ↦ refusal opened tokens stop ]) [
      | None ↦ refl
      | Some opened ↦ accepted-stop opened tokens stop
    ]

-- if the acceptor refuses no token, all tokens may come
pub accepted-whole : (phases : List Phase) (tokens : List Placed) (stop : Option ℕ) → refusal phases tokens stop ≡ None
    → (accepted phases tokens stop).tokens ≡ tokens
unfolding accepted refusal
accepted-whole phases [] stop h = refl
accepted-whole phases (p ∷ tokens) stop h =
    elim (phases_after phases p.token) as (λ d. elim d as (λ _. Option ℕ) [ None ↦ Some p.place | Some opened ↦ refusal opened tokens stop ] ≡ None
    → (elim d as (λ _. Scan) [
      | None ↦ record { tokens = []; stop = Some p.place }
      | Some opened ↦ record { tokens = p ∷ (accepted opened tokens stop).tokens; stop = (accepted opened tokens stop).stop }
    ]).tokens ≡ p ∷ tokens) [
      | None ↦ λ e. absurd (cc e)
      | Some opened ↦ λ e. ap (λ ts. p ∷ ts) (accepted-whole opened tokens stop e)
    ] h

-- after tokens that may all come
pub accepted-front : (tokens : List Placed) (phases opened : List Phase) (rest : List Placed) (stop : Option ℕ) → advanced_all phases tokens ≡ Some opened →
    (accepted phases (tokens ++ rest) stop).tokens ≡ tokens ++ (accepted opened rest stop).tokens
unfolding accepted advanced_all
accepted-front [] phases opened rest stop h = let same : phases ≡ opened = cc h in ap (λ p. (accepted p rest stop).tokens) same
accepted-front (p ∷ tokens) phases opened rest stop h =
    let (next, first, all) = gone_on (phases_after phases p.token) (λ o. advanced_all o tokens) opened h in
    rw (first, accepted) (ap (λ ts. p ∷ ts) (accepted-front tokens next opened rest stop all))

-- ---- what is left

pub left-taken : (u v : Unread) (token : Token) (rest : List ℕ) → front_of u.text ≡ Some (token, rest) → phases_after u.phases token ≡ Some v.phases →
    v.text ≡ rest → v.place ≡ u.place + (length u.text - length rest) → left_of u ≡ with_token u.place token (left_of v)
left-taken u v token rest front step same at =
    ap (accepted_of u.phases) (front-scan u.place u.text rest token front)
    ∙ accepted-go u.place token u.phases v.phases _ _ step
    ∙ ap (λ p. with_token u.place token (accepted_of v.phases (scan 0 p rest))) (sym at)
    ∙ ap (λ t. with_token u.place token (accepted_of v.phases (scan 0 v.place t))) (sym same)

pub left-refused : (u : Unread) (token : Token) (rest : List ℕ) → front_of u.text ≡ Some (token, rest) → phases_after u.phases token ≡ None →
    left_of u ≡ record { tokens = []; stop = Some u.place }
left-refused u token rest front step =
    ap (accepted_of u.phases) (front-scan u.place u.text rest token front) ∙ accepted-here u.place token u.phases _ _ step

pub left-nothing : (u : Unread) → front_of u.text ≡ None → (left_of u).tokens ≡ []
left-nothing u none = ap (λ s. s.tokens) (accepted-none u.phases _ _ (front-none u.place u.text none))

pub left-at-end : (u : Unread) → true ≡ (length u.text == 0) → None ≡ (left_of u).stop
unfolding scan
left-at-end u h = ended u.text h
  where
    ended : (text : List ℕ) → true ≡ (length text == 0) → None ≡ (accepted_of u.phases (scan 0 u.place text)).stop
    ended [] h = ap (λ s. s.stop) (sym (accepted-none u.phases [] None refl))
    ended (b ∷ text) h = let e : suc (length text) ≡ 0 = (Decides-eqb (suc (length text)) 0).0 (sym h) in absurd (omega arith)

pub left-before-end : (u : Unread) → false ≡ (length u.text == 0) → (left_of u).tokens ≡ [] → Some u.place ≡ (left_of u).stop
left-before-end u h none = by_front (front_of u.text) refl
  where
    by_step : (token : Token) (rest : List ℕ) → front_of u.text ≡ Some (token, rest) → (d : Option (List Phase)) → phases_after u.phases token ≡ d →
        Some u.place ≡ (left_of u).stop
    by_step token rest front None step = sym (ap (λ s. s.stop) (left-refused u token rest front step))
    by_step token rest front (Some opened) step =
        let v : Unread = record { place = u.place + (length u.text - length rest); text = rest; phases = opened } in
        let more = ap (λ s. s.tokens) (left-taken u v token rest front step refl refl) in
        absurd (cc (sym none ∙ more))

    by_front : (found : Front Token) → front_of u.text ≡ found → Some u.place ≡ (left_of u).stop
    by_front None e =
        let tokens = front-none u.place u.text e in
        stop-before-end u.place u.text h tokens ∙ sym (ap (λ s. s.stop) (accepted-none u.phases _ _ tokens))
    by_front (Some (token, rest)) e = by_step token rest e (phases_after u.phases token) refl

-- no more tokens than bytes
pub left-few : (u : Unread) → length (left_of u).tokens ≤ length u.text
left-few u = omega (arith, accepted-tokens-few u.phases (scan 0 u.place u.text), tokens-few 0 u.place u.text)

-- after a token was taken, one less is left
pub one-less : (o : Option Placed) (before after : List Placed) → MatchOption o (before ≡ []) (λ found. before ≡ found ∷ after) → true ≡ is_some o →
    length after < length before
one-less None before after h some = absurd (cc some)
one-less (Some found) before after h some = omega (arith, ap length h)
