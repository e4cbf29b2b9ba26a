mod BufferSteps
