use Rattle.std.proofs.Common.{◌≡◌, ◌+◌, ◌<◌, length, take, drop, ◌++◌, sym, subst, ◌∙◌, arith}
use Rattle.std.proofs.lemmas.Grind.{common_steps}
use Rattle.zj_layout.specs.Image.{image_of, graph_of}
use Rattle.zj_layout.specs.Linked.{MarksLed}
use Rattle.zj_layout.proofs.Linking.{marks_none}
use Rattle.zj_layout.proofs.Ruled.{written_back}
use Rattle.zj_layout.proofs.links.marks_led.Goals as goal

pub loop-dir-init : goal.loop-dir-init
loop-dir-init c = marks_none c.args.sizes.now.nodes (graph_of (image_of c.args.sizes.now c.args.blocks.now)) c.in_ok-led.led.items c.in_ok-again.again.items (grind (arith, common_steps)) (grind (arith, common_steps))

pub mark_led-requires-clause-marks : goal.mark_led-requires-clause-marks
mark_led-requires-clause-marks c =
    let g = graph_of (image_of c.args.sizes.now c.args.blocks.now) in
    subst (λ xs. MarksLed c.args.sizes.now.nodes g (λ d p. d < c.loop-dir.dir) xs c.deref_mut-in-loop-dir.result.now) (sym c.deref_mut.ensures.value)
    (subst (MarksLed c.args.sizes.now.nodes g (λ d p. d < c.loop-dir.dir) c.loop-dir.led.items) (sym c.deref_mut-in-loop-dir.ensures.value) c.loop-dir.invariant)

pub loop-dir-preserved : goal.loop-dir-preserved
loop-dir-preserved c =
    let g = graph_of (image_of c.args.sizes.now c.args.blocks.now) in
    let m = c.in_ok-mark_led.ensures in
    let n = c.args.sizes.now.nodes in
    let led_long : length c.mark_led.new.led ≡ c.loop-dir.led.len = m.led_many ∙ sym c.loop-dir.invariant.led_many ∙ sym c.loop-dir.led.ok.0 in
    let again_long : length c.mark_led.new.again ≡ c.loop-dir.again.len = m.again_many ∙ sym c.loop-dir.invariant.again_many ∙ sym c.loop-dir.again.ok.0 in
    let led = sym (written_back c.mark_led.new.led c.loop-dir.led.items c.loop-dir.led.len led_long) in
    let again = sym (written_back c.mark_led.new.again c.loop-dir.again.items c.loop-dir.again.len again_long) in
    subst (λ xs. MarksLed n g (λ d p. d < c.loop-dir.dir + 1) xs (take c.loop-dir.again.len (c.mark_led.new.again ++ drop (length c.mark_led.new.again) c.loop-dir.again.items))) led (subst (MarksLed n g (λ d p. d < c.loop-dir.dir + 1) c.mark_led.new.led) again m)

pub returns : goal.returns
returns c =
    let end : c.loop-dir.dir ≡ c.args.sizes.now.nodes = omega (arith, c.nodes-dir-end.ensures.value) in
    subst (λ n. MarksLed c.args.sizes.now.nodes (graph_of (image_of c.args.sizes.now c.args.blocks.now)) (λ d p. d < n) c.loop-dir.led.items c.loop-dir.again.items) end c.loop-dir.invariant
