use Rattle.std.proofs.Common.{◌≡◌, ◌+◌, ◌≤◌, ◌%◌, ℕ, suc, List, length, subst, Vec, Global, ap, refl, ◌∙◌, arith, vec_len}
use Rattle.ti_caps.specs.declared.capability.Kind.TheVariants.{Flag}
use Rattle.ti_layout.specs.Image.{written_count}
use Rattle.ti_compiled.specs.inside.Bytes.{Replaces, with_length}
use Rattle.ti_compiled.specs.inside.Image.{names_in, contents_in}
use Rattle.ti_compiled.proofs.FlagPlaces.{flags_within}
use Rattle.ti_compiled.proofs.FlagChange.{flag_lengths, flag_written, flag_cut, flag_changed}
use Rattle.ti_compiled.proofs.flags.change_flag.Goals as goal
use Rattle.ti_compiled.proofs.flags.change_flag.Goals.{then-index-wanted, else-index-wanted}

pub resize_part-requires-clause-within : goal.resize_part-requires-clause-within
resize_part-requires-clause-within c =
    let w = flags_within c.args.bytes.now.items c.requires.image c.args.old.now c.requires.old in
    let s = c.flags_offset-start.ensures in
    let g = c.gap.ensures in
    omega arith

pub resize_part-requires-clause-room : goal.resize_part-requires-clause-room
resize_part-requires-clause-room c =
    let b = c.args.bytes.now.items in
    let l = flag_lengths (names_in b) (contents_in b) c.requires.image.imaged.past c.args.index c.requires.index c.args.on c.args.old.now c.args.new.now
    c.requires.old c.requires.new in
    let w = ap (λ (x : List ℕ). length x) c.requires.image.whole in
    let r = c.requires.room in
    let g = c.gap.ensures in
    let n = c.gap-2.ensures in
    omega arith

pub index_mut-requires : goal.index_mut-requires
index_mut-requires c =
    let w = flags_within c.args.bytes.now.items c.requires.image c.args.old.now c.requires.old in
    let l = c.resize_part.ensures.len in
    let s = c.flags_offset-start.ensures in
    let g = c.gap.ensures in
    omega arith

pub write_header-requires : goal.write_header-requires
write_header-requires c =
    let a = flags_within c.args.bytes.now.items c.requires.image c.args.old.now c.requires.old in
    let l = c.resize_part.ensures.len in
    let g = c.gap.ensures in
    let long : 12 ≤ vec_len c.resize_part.new.bytes = omega arith in
    elim c.if-index-wanted.branch [
      | then-index-wanted w ↦ rw w.bytes-is long
      | else-index-wanted w ↦ rw w.bytes-is long
    ]

pub returns : goal.returns
returns c =
    let b = c.args.bytes.now.items in
    let names = names_in b in
    let d = contents_in b in
    let past = c.requires.image.imaged.past in
    let h = c.args.old.now in
    let k = c.args.new.now in
    let n = k.flags + c.gap-2.result in
    let wanted : n ≡ k.flags + (k.names + k.flags) % 2 = ap (λ x. k.flags + x) c.gap-2.ensures in
    let b1 = c.resize_part.new.bytes.items in
    let b2 = c.if-index-wanted.bytes.items in
    let i = c.requires.index in
    let at : c.flags_offset-start.result ≡ 12 + suc (length names) = c.flags_offset-start.ensures ∙ ap (λ x. 12 + x) c.requires.old.names in
    let size : h.flags + c.gap.result ≡ written_count d Flag + (suc (length names) + written_count d Flag) % 2 =
    ap (λ x. h.flags + x) c.gap.ensures ∙ rw (c.requires.old.names, c.requires.old.flags) refl in
    let resizes : Replaces b b1 (12 + suc (length names)) (written_count d Flag + (suc (length names) + written_count d Flag) % 2) (λ m. with_length m n 0) =
    subst (λ x. Replaces b b1 (12 + suc (length names)) x (λ m. with_length m n 0)) size
    (subst (λ x. Replaces b b1 x (h.flags + c.gap.result) (λ m. with_length m n 0)) at c.resize_part.ensures.part) in
    let whole = c.requires.image.whole in
    let done = flag_changed names d past c.args.index i c.args.on b b1 n whole resizes b2 c.write_header.new.bytes.items k in
    elim c.if-index-wanted.branch [
      | then-index-wanted w ↦
          done (flag_written names d past c.args.index i c.args.on b b1 n whole resizes b2 c.flags_offset-start.result w.flag_byte.result
          w.if-index-wanted.true at w.flag_byte.ensures (ap (λ (v : Vec ℕ Global). v.items) w.bytes-is))
          c.requires.new c.requires.small wanted c.write_header.ensures.header
      | else-index-wanted w ↦
          done (ap (λ (v : Vec ℕ Global). v.items) w.bytes-is ∙ flag_cut names d past c.args.index i c.args.on b b1 n whole resizes w.if-index-wanted.false)
          c.requires.new c.requires.small wanted c.write_header.ensures.header
    ]
