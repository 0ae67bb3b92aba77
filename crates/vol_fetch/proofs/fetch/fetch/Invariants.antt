use Rattle.std.proofs.Common.{map, string_bytes}
use Rattle.remote_store.specs.Shown.{count_at, shown}
use Rattle.vol_fetch.specs.Words.{first_word}
use Rattle.vol_fetch.proofs.fetch.fetch.Given as goal

abbrev pub ghosts-fetch_from : goal.ghosts-fetch_from
ghosts-fetch_from g a = record { host = first_word (map string_bytes a.words.now); port = a.request.now.port; dataset = a.request.now.dataset; before = g.D.Dial.dialled a.dial; sent = g.D.Dial.sent a.dial; count = count_at (shown a.request.now.dataset (g.D.Dial.peer a.dial)) (g.D.Dial.faults a.dial) 0 }
