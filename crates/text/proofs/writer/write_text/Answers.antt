-- What the write came to is handed back.
use Rattle.text.proofs.Written.{handed_back}
use Rattle.text.proofs.writer.write_text.Goals as goal

pub returns : goal.returns
returns c = handed_back _ _ _ _ _ c.written.ensures c.told.ensures.answer c.told.ensures.length
