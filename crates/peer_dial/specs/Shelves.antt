-- The objects of a list of entries, of which the first of a name counts; what a server of them says; and what was dialled
-- (this project's).
use Rattle.std.specs.Prelude.{◌≡◌, ℕ, List, map as map_list, string_bytes}
use Rattle.std.specs.FinMap as map
use Rattle.vol_base.specs.Outside.{Objects}
use Rattle.range_server.specs.Replies.{AreReplies}
use Rattle.remote_store.specs.Dials.{Dialled}
use Rattle.peer_dial.specs.declared.entry.Address.{Address}
use Rattle.peer_dial.specs.declared.entry.Entry.{Entry}

abbrev pub entry : Entry → List ℕ × List ℕ
entry o = (o.name, o.bytes.items)

abbrev pub objects_on : List Entry → Objects
objects_on es = map.from_entries (map_list entry es)

-- the bytes are the replies to what was sent
pub record HasReplies (m : Objects) (dataset sent replies : List ℕ) : Type 0 where
  pub same : (out : List ℕ) → AreReplies m dataset sent out → out ≡ replies

abbrev pub address : Address → List ℕ × ℕ
address a = (string_bytes a.host, a.port)

abbrev pub dialled_on : List Address → Dialled
dialled_on addresses = map_list address addresses
