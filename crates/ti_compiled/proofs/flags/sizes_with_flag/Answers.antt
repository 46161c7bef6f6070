use Rattle.std.proofs.Common.{◌≡◌, ◌+◌, max, refl, ◌∙◌, arith}
use Rattle.ti_compiled.proofs.FlagPlaces.{flags_within, sizes_set, sizes_unchanged, sizes_down}
use Rattle.ti_compiled.proofs.flags.sizes_with_flag.Goals as goal
use Rattle.ti_compiled.proofs.flags.sizes_with_flag.Goals.{then-on, else-on+then-index-old, else-on+else-index-old}

pub slice_bounds-last_set-end : goal.slice_bounds-last_set-end
slice_bounds-last_set-end c = let w = flags_within c.args.bytes.now c.requires.image c.args.old.now c.requires.old in
    let s = c.flags_offset-start.ensures in
    omega arith

pub returns : goal.returns
returns c =
    let b = c.args.bytes.now in
    let h = c.args.old.now in
    let is = c.requires.image in
    let has = c.requires.old in
    let within = c.requires.index in
    elim c.if-on.branch [
      | then-on w ↦
          let e : c.if-on.flags ≡ max h.flags (c.args.index + 1) = w.flags-is ∙ w.max-flags.ensures in
          rw w.if-on.true (sizes_set b is h has c.args.index within c.if-on.flags e)
      | else-on+then-index-old w ↦
          let last = w.last_set.ensures in
          rw (w.if-on.false, w.flags-is) (sizes_down b is h has c.args.index within c.flags_offset-start.result
          (c.flags_offset-start.result + c.args.index) w.last_set.result c.flags_offset-start.ensures refl w.if-index-old.true last.within last.last
          last.past)
      | else-on+else-index-old w ↦ rw (w.if-on.false, w.flags-is) (sizes_unchanged b is h has c.args.index within w.if-index-old.false)
    ]
