use Rattle.std.proofs.Common.{◌≡◌, rules}
use Rattle.st_json.proofs.Objects.{adds_close, adds_key, adds_member, adds_object}
use Rattle.st_replies.specs.Shown.{reply_data}
use Rattle.st_replies.specs.Texts.{text_of}
use Rattle.st_replies.proofs.reply.put_reply.Goals as goal

pub returns : goal.returns
unfolding reply_data
returns c =
    let text : c.as_str.result.now ≡ text_of c.args.reply.now.cause = search rules in
    adds_object c.in_ok-open_object.ensures (
    adds_member (rw c.from.ensures at c.in_ok-count_member.ensures) (
    adds_member (adds_key c.in_ok-put_key.ensures c.in_ok-put_result.ensures) (
    adds_member (rw text at c.in_ok-text_member.ensures) (
    adds_close c.in_ok-close_object.ensures))))
