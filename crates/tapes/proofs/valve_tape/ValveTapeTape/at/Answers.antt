use Rattle.std.proofs.Common.{Ok, get_or, rules, ◌≡◌, ◌/◌, length}
use Rattle.std.proofs.lemmas.List.FromFn.{get_or-map-range_with_len}
use Rattle.std.specs.Simd.{first_chunks}
use Rattle.tapes.specs.Valves.{valve_at}
use Rattle.tapes.proofs.Bytes.{decoded, length-valves}
use Rattle.tapes.proofs.valve_tape.ValveTapeTape.at.Goals as goal

pub returns-in_err-record : goal.returns-in_err-record
returns-in_err-record c = search (rules, length-valves)

-- the three bytes at the place are read as the record there
read : (c : goal.After-try_from) → c.try_from.result ≡ Ok (valve_at c.args.self.now.bytes.now c.args.place)
read c =
    let bytes = c.args.self.now.bytes.now in
    let three = c.in_ok-record.record.now in
    let is : three ≡ get_or (first_chunks 3 (length bytes / 3) bytes) c.args.place three = search rules in
    decoded bytes c.args.place three (search rules) is c.args.self.now.lawful c.try_from.result c.try_from.ensures

pub unwrap-requires : goal.unwrap-requires
unwrap-requires c = let ok = read c in search rules

pub returns : goal.returns
returns c = let ok = read c.before in search (rules, length-valves, get_or-map-range_with_len)
