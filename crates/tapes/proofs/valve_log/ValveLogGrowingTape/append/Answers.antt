use Rattle.std.proofs.Common.{List, ℕ, ◌+◌, ◌*◌, ◌-◌, ◌/◌, ◌<◌, ap, sym, arith, rules, ◌∙◌, length, refl}
use Rattle.std.proofs.lemmas.Slice.{put_mid-paste}
use Rattle.states.specs.Valve.{encoded}
use Rattle.tapes.specs.Valves.{valves, written}
use Rattle.tapes.proofs.Bytes.{length-valves, length-written, pasted, valves_written}
use Rattle.tapes.proofs.valve_log.ValveLogGrowingTape.append.Goals as goal

pub returns-then-place-self : goal.returns-then-place-self
returns-then-place-self c = search (rules, length-valves)

pub returns : goal.returns
returns c =
    let log = c.args.self.now in
    let before = log.bytes.now in
    let place = log.used in
    let room : place < length before / 3 = omega (arith, log.within, c.if-place-self.false) in
    let is = put_mid-paste (3 * place) (3 * place + 3 - 3 * place) before c.copy_from_slice.new.self (encoded c.args.state) 3 (search rules) (omega arith) refl ∙ pasted before place c.args.state room in
    let held = length-valves place before in
    record {
      kept = ap (λ (xs : List ℕ). length xs / 3) is ∙ ap (λ n. n / 3) (length-written before place c.args.state);
      grown = record {
        room = λ full. omega (arith, full, held, c.if-place-self.false);
        longer = ap (valves (place + 1)) is ∙ valves_written before place c.args.state room;
      };
      written = (is ∙ ap (λ n. written before n c.args.state) (sym held), refl);
    }
