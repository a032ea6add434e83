-- Document 01's answers as the records that a caller in another language gets. A value that an answer does not carry is 0.
use Rattle.std.specs.Prelude.{ℕ, Bool, cond, not, List, eqb, get_or}
use Rattle.std.specs.Borrow.{MutBor}
use denote.Triple.Both.{Both}
use Rattle.vocabulary.specs.Answer.{Answer}
use Rattle.response.specs.Response.{numbers_of}
use Rattle.response.specs.declared.Numbers.{Numbers}
use Rattle.log_records.specs.RecordAt.{Entry, Item}
use Rattle.log_records.specs.RecordAt as item
use Rattle.policy.specs.Outcome.{Log, Outcome, told_answer}
use Rattle.packing.specs.CopyOutcome.{CopyOutcome}
use Rattle.housechervil.specs.declared.HcRegisterAnswer.{HcRegisterAnswer}
use Rattle.housechervil.specs.declared.HcReply.{HcReply}
use Rattle.housechervil.specs.declared.HcPlaced.{HcPlaced}
use Rattle.housechervil.specs.declared.HcLogItem.{HcLogItem}
use Rattle.housechervil.specs.declared.HcNumber.{HcNumber}

-- The value that an answer carries at a place of its list, counted from 0.
abbrev pub carried_at : ℕ → Answer → ℕ
carried_at i a = get_or a.carried i 0

-- ---- the register

-- The mode as a caller gives it: 0 for classes, anything else for pairs.
abbrev pub by_pairs : ℕ → Bool
by_pairs mode = not (eqb mode 0)

abbrev pub register_record : Answer → HcRegisterAnswer
register_record a =
    record {
      number = a.number;
      first = carried_at 0 a;
      second = carried_at 1 a;
    }

-- ---- the request

-- What the caller is told, with the log's new end and the next serial.
abbrev pub reply_of : Answer → ℕ → ℕ → HcReply
reply_of a end serial =
    let n : Numbers = numbers_of a in
    record {
      number = n.number;
      first = n.first;
      second = n.second;
      count = n.count;
      end = end;
      serial = serial;
    }

-- The log that a caller lends: its buffer, its end and the next serial.
abbrev pub log_at : List ℕ → ℕ → ℕ → Log
log_at bytes end serial =
    record {
      bytes = bytes;
      end = end;
      serial = serial;
    }

-- The same, of the buffer as it is when the function is called.
abbrev pub lent_at : {X : Type 0} → Both (MutBor (List ℕ)) X → ℕ → ℕ → Log
lent_at log end serial = log_at log.entry.now end serial

-- What the caller has after a request: the reply, the matrix and the log's bytes.
pub record Served : Type 0 where
  pub reply : HcReply
  pub matrix : List ℕ
  pub log : List ℕ

abbrev pub served_by : HcReply → List ℕ → List ℕ → Served
served_by reply matrix log =
    record {
      reply = reply;
      matrix = matrix;
      log = log;
    }

abbrev pub served : Outcome → Served
served x = served_by (reply_of (told_answer x.answer) x.log.end x.log.serial) x.matrix x.log.bytes

-- ---- a place or a number

-- An answer that carries at most one value, a place or a number of records.
abbrev pub placed_of : Answer → HcPlaced
placed_of a =
    record {
      number = a.number;
      value = carried_at 0 a;
    }

-- What the caller has after packing or unpacking: the answer and the lent buffer.
pub record Copied : Type 0 where
  pub told : HcPlaced
  pub left : List ℕ

abbrev pub copied : CopyOutcome → Copied
copied x =
    record {
      told = placed_of x.told;
      left = x.left;
    }

-- ---- the log

-- An item that carries a place alone: the end, or a refusal.
abbrev pub placed_item : ℕ → ℕ → HcLogItem
placed_item number place =
    record {
      number = number;
      serial = 0;
      login = 0;
      folder = 0;
      kind = 0;
      answer = 0;
      count = 0;
      list = 0;
      place = place;
    }

-- A record's fields, the place of its list and the place after it.
abbrev pub entry_item : Entry → HcLogItem
entry_item e =
    record {
      number = 0;
      serial = e.serial;
      login = e.login;
      folder = e.folder;
      kind = e.kind;
      answer = e.answer;
      count = e.count;
      list = e.list;
      place = e.next;
    }

-- What a step yields. Document 01 gives a record and the end no numbers; they are 0 and 1.
abbrev pub log_item : Item → HcLogItem
log_item (item.entry e) = entry_item e
log_item (item.end place) = placed_item 1 place
log_item (item.refusal a) = placed_item a.number (carried_at 0 a)

-- A number read and the place after it, or the place of a number that is refused.
abbrev pub number_of : Answer → HcNumber
number_of a =
    cond (eqb a.number 0)
    (record {
      number = 0;
      value = carried_at 0 a;
      place = carried_at 1 a;
    })
    (record {
      number = a.number;
      value = 0;
      place = carried_at 0 a;
    })
