mod StepByStep
