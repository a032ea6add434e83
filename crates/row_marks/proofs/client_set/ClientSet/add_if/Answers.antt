-- `add_if` meets its contract: the client's bit is put into its word.
use Rattle.std.proofs.Common.{arith, length, ◌≡◌, ◌<◌, ◌/◌, rules}
use Rattle.row_marks.proofs.Marks.{put_one}
use Rattle.row_marks.proofs.client_set.ClientSet.add_if.Goals as goal

pub returns : goal.returns
returns c =
    let long : length c.args.self.now.words ≡ 1024 = search rules in
    let word = c.word_of.ensures in
    let room : c.args.client.0 / 64 < length c.args.self.now.words = omega (arith, word.0, word.1) in
    rw (word.0, c.from.ensures) (put_one c.args.self.now.words c.args.client.0 c.args.wanted room)
