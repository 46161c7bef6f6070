-- Bytes without a newline, and lines cut from the bytes ahead.
use Rattle.std.proofs.Common.{◌≡◌, ◌≢◌, ℕ, zero, suc, ◌+◌, ◌-◌, ◌<◌, ◌≤◌, ◌⊎◌, Option, Some, None, Ok, Err, true, false, List, [], ◌∷◌, ◌++◌, length}
use Rattle.std.proofs.Common.{get_or, take, drop, refl, sym, ap, ◌∙◌, append_assoc, append-nil, subst, arith, add-one, length-append}
use Rattle.std.proofs.Math.Seq.{drop-cons}
use Rattle.std.proofs.lemmas.Bool.{eq-eqb, eqb-true}
use Rattle.std.proofs.lemmas.List.{drop-drop, drop-take, length-take, take-append-drop}
use Rattle.std.specs.Prelude.{MatchOption}
use Rattle.memchr.specs.Find.{IsFirstByte, is_byte}
use Rattle.std.specs.List.{AllByRecursion}
use Rattle.tools_devices.specs.Counted.{Observed}
use Rattle.std.specs.Io.KnownBytes.{IsAtEnd}
use Rattle.tools_devices.proofs.Written.{Consumes-then, Gives-then}
use Rattle.tools_devices.specs.inside.LineReader.{Refills, TakesLine, ReadsLine, SpendsReads, ahead_of, bytes_left, line_limit_of, last_line_of, reads_left_of}
use Rattle.tools_devices.specs.Lines.{IsOneLine, IsWithin, with_newline}
use Rattle.tools_devices.specs.Reading.{Gives}
use Rattle.tools_devices.specs.declared.line_reader.LineReader.{LineReader}
use Rattle.tools_devices.specs.declared.line_reader.Next.TheVariants.{Line}
use Rattle.tools_devices.specs.declared.tool_error.ToolError.{ToolError}

pub IsOneLine-append : (a b : List ℕ) → IsOneLine a → IsOneLine b → IsOneLine (a ++ b)
IsOneLine-append [] b x y = y
IsOneLine-append (byte ∷ a) b x y = (x.0, IsOneLine-append a b x.1 y)

pub IsOneLine-no_newline : (bytes : List ℕ) → ((k : ℕ) → k < length bytes → get_or bytes k 0 ≢ 10) → IsOneLine bytes
IsOneLine-no_newline [] none = tt
IsOneLine-no_newline (byte ∷ bytes) none =
    (none 0 (omega arith), IsOneLine-no_newline bytes (λ k low. none (suc k) (omega arith)))

pub IsOneLine-take : (n : ℕ) (bytes : List ℕ) → ((k : ℕ) → k < n → get_or bytes k 0 ≢ 10) → IsOneLine (take n bytes)
IsOneLine-take zero bytes none = tt
IsOneLine-take (suc n) [] none = tt
IsOneLine-take (suc n) (byte ∷ bytes) none =
    (none 0 (omega arith), IsOneLine-take n bytes (λ k low. none (suc k) (omega arith)))

pub cut_at : (n : ℕ) (bytes : List ℕ) → n < length bytes → get_or bytes n 0 ≡ 10
    → bytes ≡ with_newline (take n bytes) ++ drop (n + 1) bytes
cut_at n bytes low newline =
    let cons : drop n bytes ≡ 10 ∷ drop (n + 1) bytes =
    rw (drop-cons bytes n 0 low, newline, add-one) refl in
    sym (take-append-drop n bytes) ∙ ap (λ (t : List ℕ). take n bytes ++ t) cons
    ∙ sym (append_assoc (take n bytes) (10 ∷ []) (drop (n + 1) bytes))

pub AllByRecursion-push : (P : List ℕ → Type 0) (lines : List (List ℕ)) (line : List ℕ) → AllByRecursion P lines → P line
    → AllByRecursion P (lines ++ line ∷ [])
AllByRecursion-push P [] line all one = (one, tt)
AllByRecursion-push P (first ∷ lines) line all one = (all.0, AllByRecursion-push P lines line all.1 one)

-- if the first newline is there, the bytes are a line with it and what follows
pub newline_found : (bytes : List ℕ) (found : Option ℕ) → IsFirstByte (is_byte 10) bytes found
    → MatchOption found (IsOneLine bytes) (λ end. (end < length bytes)
    × (bytes ≡ with_newline (take end bytes) ++ drop (end + 1) bytes) × IsOneLine (take end bytes))
newline_found bytes None none = IsOneLine-no_newline bytes (λ k low is. none k (omega arith) low (eq-eqb _ _ is))
newline_found bytes (Some end) first = (
  first.0.high,
  cut_at end bytes first.0.high (eqb-true _ _ first.1),
  IsOneLine-take end bytes (λ k low is. first.0.before k (omega arith) low (eq-eqb _ _ is)),
)

-- the front of the bytes ahead is skipped
pub skip_front : (piece : List ℕ) (from to count : ℕ) → from ≤ to → count ≤ length (take (to - from) (drop from piece))
    → take (to - (from + count)) (drop (from + count) piece) ≡ drop count (take (to - from) (drop from piece))
skip_front piece from to count low within =
    let room : to - from ≡ count + (to - (from + count)) = omega (arith, length-take (to - from) (drop from piece)) in
    ap (λ (t : List ℕ). take (to - (from + count)) t) (sym (drop-drop count from piece))
    ∙ sym (drop-take count (to - (from + count)) (drop from piece))
    ∙ ap (λ (n : ℕ). drop count (take n (drop from piece))) (sym room)

-- what was ahead and what was taken since is the front of the line and what is ahead now
pub record Filled (before now : LineReader) (given left : Observed) : Type 0 where
  pub taken : List ℕ
  pub gives : Gives given left taken
  pub whole : ahead_of before ++ taken ≡ last_line_of now ++ ahead_of now
  pub one : IsOneLine (last_line_of now)
  pub within : IsWithin (line_limit_of before) (last_line_of now)
  pub spends : SpendsReads before now given left
  pub fewer : length (last_line_of now) + bytes_left now ≤ bytes_left before

-- with another line before: what was ahead and what was taken since is its front and what is ahead
-- now
pub Filled-same : (before cleared mid : LineReader) (given left : Observed) → ahead_of cleared ≡ ahead_of before
    → reads_left_of cleared ≡ reads_left_of before → line_limit_of cleared ≡ line_limit_of before → Filled cleared mid given left
    → Filled before mid given left
Filled-same before cleared mid given left ahead reads limit f = record {
  taken = f.taken;
  gives = f.gives;
  whole = ap (λ (t : List ℕ). t ++ f.taken) (sym ahead) ∙ f.whole;
  one = f.one;
  within = subst (λ (n : ℕ). length (last_line_of mid) ≤ n) limit f.within;
  spends = record { limit = f.spends.limit ∙ limit; reads = f.spends.reads ∙ ap (λ (n : ℕ). n + given.reads) reads };
  fewer = rw (reads, ahead) at f.fewer;
}

module _ (before mid : LineReader) (given left : Observed) (f : Filled before mid given left) where
  pub Filled-over : (now : LineReader) (e : ToolError) → TakesLine mid now (Err e) → ReadsLine before now given left (Err e)
  Filled-over now e over =
      let same : line_limit_of mid ≡ line_limit_of before = f.spends.limit in
      let whole = f.whole ∙ ap (λ (t : List ℕ). last_line_of mid ++ t) over.3 ∙ sym (append_assoc (last_line_of mid) over.1 over.2) in
      subst (λ (x : ToolError). ReadsLine before now given left (Err x)) (sym over.0) (
        f.taken,
        last_line_of mid ++ over.1,
        over.2,
        f.gives,
        whole,
        IsOneLine-append _ _ f.one over.4,
        subst (λ (n : ℕ). n < length (last_line_of mid ++ over.1)) same over.5,
      )

  pub Filled-line : (now : LineReader) → TakesLine mid now (Ok true) → ReadsLine before now given left (Ok Line)
  Filled-line now t =
      let same : line_limit_of mid ≡ line_limit_of before = f.spends.limit in
      let whole : ahead_of before ++ f.taken ≡ with_newline (last_line_of mid ++ t.0) ++ ahead_of now =
      f.whole ∙ ap (λ (r : List ℕ). last_line_of mid ++ r) t.1 ∙ sym (append_assoc (last_line_of mid) (with_newline t.0) (ahead_of now))
      ∙ ap (λ (r : List ℕ). r ++ ahead_of now) (sym (append_assoc (last_line_of mid) t.0 (10 ∷ []))) in
      (f.taken, f.gives, rw t.3 whole, rw t.3 (IsOneLine-append _ _ f.one t.2), subst (λ (n : ℕ). length (last_line_of now) ≤ n) same t.4)

  -- all that was ahead is after the line's front
  module _ (next : LineReader) (t : TakesLine mid next (Ok false)) (same_limit : line_limit_of next ≡ line_limit_of mid)
      (same_reads : reads_left_of next ≡ reads_left_of mid) where
    line_whole : ahead_of before ++ f.taken ≡ last_line_of next
    line_whole = f.whole ∙ sym t.2

    line_one : IsOneLine (last_line_of next)
    line_one = rw t.2 (IsOneLine-append _ _ f.one t.0)

    line_within : IsWithin (line_limit_of before) (last_line_of next)
    line_within =
        let same : line_limit_of mid ≡ line_limit_of before = f.spends.limit in
        subst (λ (n : ℕ). length (last_line_of next) ≤ n) same t.3

    pub Filled-more : (now : LineReader) (later : Observed) → Refills next now left later (Ok true) → last_line_of now ≡ last_line_of next
        → SpendsReads next now left later → Filled before now given later
    Filled-more now later r kept s =
        let limits : line_limit_of mid ≡ line_limit_of before = f.spends.limit in
        let spent : reads_left_of mid + left.reads ≡ reads_left_of before + given.reads = f.spends.reads in
        let spends : reads_left_of now + later.reads ≡ reads_left_of next + left.reads = s.reads in
        let low : length (last_line_of mid) + bytes_left mid ≤ bytes_left before = f.fewer in
        let none : length (ahead_of next) ≡ 0 = ap length t.1 in
        let long : length (last_line_of next) ≡ length (last_line_of mid) + length (ahead_of mid) = ap length t.2
        ∙ length-append (last_line_of mid) (ahead_of mid) in
        let fewer : bytes_left now ≤ bytes_left next = r.2 in record {
          taken = f.taken ++ ahead_of now;
          gives = Gives-then given left later f.taken (ahead_of now) f.gives r.0;
          whole = sym (append_assoc (ahead_of before) f.taken (ahead_of now)) ∙ ap (λ (t : List ℕ). t ++ ahead_of now) (line_whole ∙ sym kept);
          one = rw kept line_one;
          within = rw kept line_within;
          spends = record { limit = s.limit ∙ same_limit ∙ limits; reads = omega arith };
          fewer = rw kept (omega arith);
        }

    pub Filled-fault : (now : LineReader) (later : Observed) (e : ToolError) → Refills next now left later (Err e)
        → ReadsLine before now given later (Err e)
    Filled-fault now later e r =
        let failures : left.failures ≡ given.failures = f.gives.failures in
        subst (λ (x : ToolError). ReadsLine before now given later (Err x)) (sym r.0) (
          f.taken,
          rw append-nil at (Consumes-then given.bytes left.bytes later.bytes f.taken [] f.gives.bytes r.1),
          rw line_whole line_one,
          rw line_whole line_within,
          subst (λ (n : ℕ). (later.failures ≡ n + 1) ⊎ ((later.failures ≡ n) × (reads_left_of now ≡ 0))) failures r.2,
        )

    pub Filled-end : (now : LineReader) (later : Observed) → Refills next now left later (Ok false) → last_line_of now ≡ last_line_of next
        → (taken : List ℕ) × Gives given later taken × (ahead_of before ++ taken ≡ last_line_of now) × IsAtEnd later.bytes
        × IsOneLine (last_line_of now) × IsWithin (line_limit_of before) (last_line_of now)
    Filled-end now later r kept = (
      f.taken,
      rw append-nil at (Gives-then given left later f.taken [] f.gives r.0),
      line_whole ∙ sym kept,
      r.1,
      rw kept line_one,
      rw kept line_within,
    )
